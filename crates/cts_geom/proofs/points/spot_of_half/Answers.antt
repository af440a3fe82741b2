use Rattle.std.proofs.Common.{arith}
use Rattle.std.proofs.lemmas.Int.{ints}
use Rattle.cts_geom.proofs.PointLemmas.{half_same}
use Rattle.cts_geom.proofs.points.spot_of_half.Goals as goal

-- the two halves of an even sum and of the difference add up to x, and differ by y
pub returns-clause-even : goal.returns-clause-even
returns-clause-even c = half_same _ _ (omega (arith, ints)) (omega (arith, ints))
