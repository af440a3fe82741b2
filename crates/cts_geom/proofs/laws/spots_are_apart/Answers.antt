use Rattle.cts_geom.proofs.PointLemmas.{spots_apart}
use Rattle.cts_geom.proofs.laws.spots_are_apart.Goals as goal

pub returns : goal.returns
returns c = spots_apart
