use Rattle.std.proofs.Common.{ℕ, ◌<◌}
use Rattle.cts_check.specs.Rules.{MeetsRoute}
use Rattle.cts_check.proofs.routes.first_illegal_route.Given as goal

abbrev pub invariant-loop-number : goal.invariant-loop-number
invariant-loop-number l = (j : ℕ) → j < l.number → MeetsRoute l.instance l.nodes j
