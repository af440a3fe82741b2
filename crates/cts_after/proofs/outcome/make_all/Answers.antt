use Rattle.std.proofs.Common.{refl, ◌∙◌}
use Rattle.cts_edit.specs.Journals.{base_of, told_by}
use Rattle.cts_after.proofs.Refusals.{none_made, one_more, refused_next}
use Rattle.cts_after.proofs.outcome.make_all.Goals as goal

pub loop-index-init : goal.loop-index-init
loop-index-init c = record {
  base = refl;
  made = none_made (base_of c.args.journal.now) c.args.history.now (told_by c.args.journal.now) c.requires.fresh;
}

pub loop-index-preserved : goal.loop-index-preserved
loop-index-preserved c =
    let l = c.loop-index in
    record {
      base = c.change.ensures.base ∙ l.invariant.base;
      made = one_more (base_of c.args.journal.now) (base_of l.journal) c.args.history.now (told_by l.journal) l.index c.loop-index-test.true
          l.invariant.made l.invariant.base (told_by c.change.new.self) c.requires.within c.in-Accepted.ensures.reply.0 c.in-Accepted.ensures.told;
    }

pub returns-in-Refused-clause-refused : goal.returns-in-Refused-clause-refused
returns-in-Refused-clause-refused c =
    let l = c.loop-index in
    refused_next (base_of c.args.journal.now) (base_of l.journal) c.args.history.now (told_by l.journal) l.index c.loop-index-test.true
    l.invariant.made l.invariant.base c.in-Refused.cause c.in-Refused.ensures.reply.0
