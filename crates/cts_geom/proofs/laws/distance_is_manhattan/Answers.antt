use Rattle.cts_geom.proofs.PointLemmas.{distance_manhattan}
use Rattle.cts_geom.proofs.laws.distance_is_manhattan.Goals as goal

pub returns : goal.returns
returns c = distance_manhattan
