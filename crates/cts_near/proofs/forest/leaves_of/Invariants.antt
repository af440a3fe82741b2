use Rattle.std.proofs.Common.{◌≡◌}
use Rattle.cts_near.specs.Forest.{leaves}
use Rattle.cts_near.proofs.forest.leaves_of.Given as goal

abbrev pub invariant-loop-place : goal.invariant-loop-place
invariant-loop-place l = l.joins.items ≡ leaves l.place
