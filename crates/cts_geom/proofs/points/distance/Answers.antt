use Rattle.std.proofs.Common.{arith}
use Rattle.std.proofs.lemmas.Int.{ints}
use Rattle.cts_geom.specs.Points.{distance_of}
use Rattle.cts_geom.proofs.PointLemmas.{distance_manhattan}
use Rattle.cts_geom.proofs.points.distance.Goals as goal

pub returns-clause-rotated : goal.returns-clause-rotated
unfolding distance_of
returns-clause-rotated c = omega (arith, ints)

pub returns-clause-manhattan : goal.returns-clause-manhattan
returns-clause-manhattan c = omega (arith, returns-clause-rotated c, distance_manhattan c.args.a c.args.b)

pub returns-clause-bound : goal.returns-clause-bound
returns-clause-bound c = omega (arith, ints)
