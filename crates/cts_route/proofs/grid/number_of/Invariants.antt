use Rattle.std.proofs.Common.{◌≢◌, ℕ, ◌<◌}
use Rattle.cts_route.specs.LineLists.{line_at}
use Rattle.cts_route.proofs.grid.number_of.Given as goal

abbrev pub invariant-loop-number : goal.invariant-loop-number
invariant-loop-number l = (k : ℕ) → k < l.number → line_at l.lines k ≢ l.line
