use Rattle.std.proofs.Common.{◌≤◌}
use Rattle.cts_route.proofs.frame.moved_down.Given as goal

abbrev pub invariant-loop-line : goal.invariant-loop-line
invariant-loop-line l = l.below ≤ l.line-index
