use Rattle.std.proofs.Common.{ℕ, ◌+◌, ◌*◌, ◌<◌}
use Rattle.cts_route.specs.WindowOf.{IsNoDetour}
use Rattle.cts_route.proofs.view.View.is_open.Given as goal

-- no point so far leads out
abbrev pub invariant-loop-k : goal.invariant-loop-k
invariant-loop-k l = (k : ℕ) → k < l.k → IsNoDetour l.self (l.edge.first + k * l.edge.step)
