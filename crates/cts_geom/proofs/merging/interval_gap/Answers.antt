use Rattle.std.proofs.Common.{arith}
use Rattle.std.proofs.lemmas.Int.{ints, clamps}
use Rattle.cts_geom.specs.Coordinate.{interval_gap}
use Rattle.cts_geom.proofs.merging.interval_gap.Goals as goal

pub returns-then-a2-b1-clause-value : goal.returns-then-a2-b1-clause-value
unfolding interval_gap
returns-then-a2-b1-clause-value c = omega (arith, ints, clamps)

pub returns-then-b2-a1-clause-value : goal.returns-then-b2-a1-clause-value
unfolding interval_gap
returns-then-b2-a1-clause-value c = omega (arith, ints, clamps)

pub returns-else-b2-a1-clause-value : goal.returns-else-b2-a1-clause-value
unfolding interval_gap
returns-else-b2-a1-clause-value c = omega (arith, ints, clamps)
