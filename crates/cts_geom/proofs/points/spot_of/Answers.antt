use Rattle.std.proofs.Common.{arith}
use Rattle.std.proofs.lemmas.Int.{ints}
use Rattle.cts_geom.proofs.PointLemmas.{half_same, spot_same}
use Rattle.cts_geom.proofs.points.spot_of.Goals as goal

pub returns-clause-rotated : goal.returns-clause-rotated
returns-clause-rotated c = spot_same _ _ (omega (arith, ints)) (omega (arith, ints))

pub returns-clause-point : goal.returns-clause-point
returns-clause-point c = half_same _ _ (omega (arith, ints)) (omega (arith, ints))

pub returns-clause-u : goal.returns-clause-u
returns-clause-u c = omega (arith, ints)

pub returns-clause-v : goal.returns-clause-v
returns-clause-v c = omega (arith, ints)
