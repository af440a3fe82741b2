use Rattle.cts_memo.specs.Passes.{IsPassOf}
use Rattle.cts_rows_shared.proofs.rebuilds.fill.Given as goal

abbrev pub invariant-loop-x : goal.invariant-loop-x
invariant-loop-x g l = IsPassOf l.memo l.pass
