use Rattle.std.proofs.Common.{◌≤◌}
use Rattle.cts_route.proofs.frame.moved_up.Given as goal

abbrev pub invariant-loop-line : goal.invariant-loop-line
invariant-loop-line l = l.above ≤ l.line-index
