use Rattle.cts_up.proofs.Regions.{regions_small}
use Rattle.cts_up.proofs.laws.regions_are_small.Goals as goal

pub returns : goal.returns
returns c = regions_small
