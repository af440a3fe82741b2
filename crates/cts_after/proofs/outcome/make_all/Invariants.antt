use Rattle.std.proofs.Common.{◌≡◌}
use Rattle.cts_edit.specs.Journals.{base_of, told_by}
use Rattle.cts_after.proofs.Refusals.{AreMade}
use Rattle.cts_after.proofs.outcome.make_all.Given as goal

abbrev pub invariant-loop-index : goal.invariant-loop-index
invariant-loop-index l = record {
  base : base_of l.journal ≡ base_of l.fn.journal;
  made : AreMade (base_of l.fn.journal) l.history (told_by l.journal) l.index;
}
