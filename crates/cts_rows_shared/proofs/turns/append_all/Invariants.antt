use Rattle.cts_turn.specs.Passes.{IsPassOf}
use Rattle.cts_rows_shared.specs.contracts.turns.NumbersObject.TheImpl.{ghosts}
use Rattle.cts_rows_shared.proofs.turns.append_all.Given as goal

abbrev pub invariant-loop-number : goal.invariant-loop-number
invariant-loop-number g l = IsPassOf ghosts l.turn l.pass
