use Rattle.std.proofs.Common.{◌≡◌, ◌≢◌, IfErr, subst, sym, ap, ◌∙◌}
use Rattle.std.proofs.lemmas.Result.{IfOk-weaker}
use Rattle.cts_instance.specs.Validity.{IsValid, with_sinks}
use Rattle.cts_history.specs.Legal.{IsLegal, lists_of}
use Rattle.cts_history.specs.History.{IsPrintable}
use Rattle.cts_history.proofs.Printable.{printable_lem}
use Rattle.cts_plain.specs.declared.end.NoTree.TheVariants as end
use Rattle.cts_session.specs.Desks.{version_of}
use Rattle.cts_top.specs.Memos.{IsMemoOf}
use Rattle.cts_top.specs.Synthesised.{IsSynthesised}
use Rattle.cts_top.proofs.Edited.{version_is, with_both}
use Rattle.cts_top.proofs.Editing.{last_memo, last_synthesised}
use Rattle.cts_top.proofs.edit.run_scripts.Goals as goal

pub with_version-requires : goal.with_version-requires
with_version-requires g c =
    let run = c.in_ok-left.ensures in
    subst (λ i. IsValid (with_sinks i c.in_ok-left.left.sinks.items)) (sym run.instance_is) run.valid

pub returns-clause-legal : goal.returns-clause-legal
returns-clause-legal g c =
    with_both c.with_version.result c.with_version.ensures.history c.with_version.ensures.replies
    (λ e. IsLegal c.args.instance c.args.scripts.now e.history.items (lists_of e.replies.items))
    (λ e history replies. rw (history, replies) c.in_ok-left.ensures.legal)

pub returns-clause-version : goal.returns-clause-version
returns-clause-version g c =
    with_both c.with_version.result c.with_version.ensures.version c.with_version.ensures.history
    (λ e. e.version ≡ version_of c.args.instance e.history.items)
    (λ e version history.
    version ∙ version_is c.args.instance c.args.scripts.now c.in_ok-left.left c.in_ok-left.ensures
    ∙ ap (λ h. version_of c.args.instance h.items) (sym history))

pub returns-clause-printable : goal.returns-clause-printable
returns-clause-printable g c =
    with_both c.with_version.result c.with_version.ensures.history c.with_version.ensures.replies
    (λ e. IsPrintable e.history.items (lists_of e.replies.items))
    (λ e history replies. rw (history, replies)
    (printable_lem c.args.instance c.args.scripts.now c.in_ok-left.left.history.items (lists_of c.in_ok-left.left.replies.items)
    c.instance_is_valid.ensures c.in_ok-left.ensures.sound c.in_ok-left.ensures.legal))

pub returns-clause-synthesised : goal.returns-clause-synthesised
returns-clause-synthesised g c =
    let run = c.in_ok-left.ensures in
    let same = version_is c.args.instance c.args.scripts.now c.in_ok-left.left run in
    with_both c.with_version.result c.with_version.ensures.version c.with_version.ensures.synthesis (λ e. IsSynthesised e.version e.synthesis)
    (λ e version synthesis. rw (version ∙ same, synthesis)
    (last_synthesised c.args.instance c.in_ok-left.left.history.items
    (subst (λ sinks. IsValid (with_sinks c.args.instance sinks)) run.sinks_are run.valid) c.in_ok-left.left.synthesis run.is_synthesis))

pub returns-clause-told : goal.returns-clause-told
returns-clause-told g c =
    IfOk-weaker c.with_version.result (λ e. e.synthesis ≡ c.in_ok-left.left.synthesis) (λ e. IfErr e.synthesis (λ why. why ≢ end.NoMemory))
    (λ e synthesis. rw synthesis c.in_ok-left.ensures.is_synthesis.told) c.with_version.ensures.synthesis

pub returns-clause-memo : goal.returns-clause-memo
returns-clause-memo g c =
    let run = c.in_ok-left.ensures in
    let same = version_is c.args.instance c.args.scripts.now c.in_ok-left.left run in
    with_both c.with_version.result c.with_version.ensures.version c.with_version.ensures.table (λ e. IsMemoOf e.version e.table)
    (λ e version table. rw (version ∙ same, table)
    (last_memo c.args.instance c.in_ok-left.left.history.items
    (subst (λ sinks. IsValid (with_sinks c.args.instance sinks)) run.sinks_are run.valid) c.in_ok-left.left.synthesis
    run.is_synthesis c.in_ok-left.left.table run.memo run.known))
