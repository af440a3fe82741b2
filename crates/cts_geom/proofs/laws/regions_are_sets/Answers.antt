use Rattle.cts_geom.proofs.RegionLemmas.{regions_sets}
use Rattle.cts_geom.proofs.laws.regions_are_sets.Goals as goal

pub returns : goal.returns
returns c = regions_sets
