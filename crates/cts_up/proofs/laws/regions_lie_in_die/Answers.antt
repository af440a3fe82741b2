use Rattle.cts_up.proofs.Regions.{regions_in_die}
use Rattle.cts_up.proofs.laws.regions_lie_in_die.Goals as goal

pub returns : goal.returns
returns c = regions_in_die
