use Rattle.cts_geom.proofs.RegionLemmas.{nearest_one}
use Rattle.cts_geom.proofs.laws.nearest_is_one.Goals as goal

pub returns : goal.returns
returns c = nearest_one
