use Rattle.std.proofs.Common.{ℕ, ◌<◌, slice_index_or}
use Rattle.cts_route.specs.declared.wall.Wall.{Wall}
use Rattle.cts_route.specs.Walls.{Crosses}
use Rattle.cts_route.proofs.clear.is_clear.Given as goal

-- no wall so far is crossed
abbrev pub invariant-loop-wall : goal.invariant-loop-wall
invariant-loop-wall l = (k : ℕ) → k < l.wall-index → (d : Wall) → Crosses (slice_index_or l.walls k d) l.low l.high → ⊥
