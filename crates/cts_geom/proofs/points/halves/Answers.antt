use Rattle.std.proofs.Common.{arith}
use Rattle.std.proofs.lemmas.Int.{ints}
use Rattle.cts_geom.proofs.PointLemmas.{half_same}
use Rattle.cts_geom.proofs.points.halves.Goals as goal

pub returns-clause-point : goal.returns-clause-point
returns-clause-point c = half_same _ _ (omega (arith, ints)) (omega (arith, ints))

pub returns-clause-x : goal.returns-clause-x
returns-clause-x c = omega (arith, ints)

pub returns-clause-y : goal.returns-clause-y
returns-clause-y c = omega (arith, ints)
