use Rattle.std.proofs.Common.{subst, sym, ◌∙◌}
use Rattle.cts_instance.specs.Validity.{IsValid, with_sinks}
use Rattle.cts_edit.specs.Journals.{base_of, told_by}
use Rattle.cts_edit.proofs.Validities.{sound_valid}
use Rattle.cts_edit.proofs.journal.Journal.into_lists.Goals as goal

pub returns-clause-valid : goal.returns-clause-valid
returns-clause-valid c =
    let journal = c.args.self in
    subst (λ sinks. IsValid (with_sinks (base_of journal) sinks)) (sym (c.into_vec.ensures ∙ journal.kept))
    (sound_valid (base_of journal) (told_by journal) journal.valid journal.sound)
