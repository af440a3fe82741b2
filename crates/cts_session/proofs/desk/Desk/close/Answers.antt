use Rattle.std.proofs.Common.{length, sym, ap, subst, ◌∙◌, arith}
use Rattle.cts_instance.specs.Validity.{IsValid, with_sinks}
use Rattle.cts_memo.specs.Sound.{IsSound as IsTable}
use Rattle.cts_memo.specs.Tables.{told_by}
use Rattle.cts_turn.specs.Passes.{seen_by}
use Rattle.cts_design.specs.Sound.{IsSound as IsHistory}
use Rattle.cts_session.proofs.Draws.{closed_sinks}
use Rattle.cts_session.proofs.desk.Desk.close.Goals as goal

pub table_of-table-requires-clause-whole : goal.table_of-table-requires-clause-whole
table_of-table-requires-clause-whole c = sym c.share.ensures ∙ c.if-share-ne-WHOLE.false

pub lists_of-edits-requires-clause-whole : goal.lists_of-edits-requires-clause-whole
lists_of-edits-requires-clause-whole c = sym c.share-else-share-ne-WHOLE.ensures ∙ c.if-share-ne-WHOLE-2.false

pub returns-clause-whole : goal.returns-clause-whole
returns-clause-whole c =
    (sym c.share.ensures ∙ c.if-share-ne-WHOLE.false, sym c.share-else-share-ne-WHOLE.ensures ∙ c.if-share-ne-WHOLE-2.false)

pub returns-clause-table : goal.returns-clause-table
returns-clause-table c =
    let table = c.table_of-table.ensures in
    record {
      base = table.params ∙ c.args.self.same_params;
      told = table.table;
      sound = subst (IsTable c.args.self.instance.params) table.table
          (subst (λ p. IsTable p (told_by c.table_of-table.result)) c.args.self.same_params table.sound);
    }

pub returns-clause-edits : goal.returns-clause-edits
returns-clause-edits c = c.lists_of-edits.ensures.edits

pub returns-clause-made : goal.returns-clause-made
returns-clause-made c =
    omega (arith, ap length c.lists_of-edits.ensures.edits, c.lists_of-edits.ensures.count, ap length c.args.self.unedited)

pub returns-clause-sound : goal.returns-clause-sound
returns-clause-sound c =
    let lists = c.lists_of-edits.ensures in
    subst (IsHistory c.args.self.instance) (sym lists.edits)
    (subst (λ i. IsHistory i (seen_by c.args.hands.design)) c.args.self.same_base lists.sound)

pub returns-clause-sinks : goal.returns-clause-sinks
returns-clause-sinks c =
    let lists = c.lists_of-edits.ensures in
    closed_sinks c.args.self.instance _ _ (seen_by c.args.hands.design) c.lists_of-edits.result.1.items c.args.self.same_base lists.edits lists.sinks

pub returns-clause-valid : goal.returns-clause-valid
returns-clause-valid c =
    subst (λ i. IsValid (with_sinks i c.lists_of-edits.result.1.items)) c.args.self.same_base c.lists_of-edits.ensures.valid
