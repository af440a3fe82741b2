use Rattle.cts_near.proofs.Passed.{IsOnTheWay}
use Rattle.cts_near.proofs.pass.near_counted.Given as goal

abbrev pub invariant-loop-step : goal.invariant-loop-step
invariant-loop-step g l =
    IsOnTheWay l.params l.sinks l.step l.forest.joins.items l.forest.subtrees.items l.forest.bounds.items
