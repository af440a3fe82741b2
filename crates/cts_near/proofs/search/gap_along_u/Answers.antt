use Rattle.std.proofs.Common.{arith}
use Rattle.std.proofs.lemmas.Int.{ints, clamps}
use Rattle.cts_geom.specs.Coordinate.{interval_gap}
use Rattle.cts_geom.specs.Regions.{gap_of}
use Rattle.cts_near.proofs.search.gap_along_u.Goals as goal

pub returns : goal.returns
unfolding gap_of interval_gap
returns c = omega (arith, ints, clamps)
