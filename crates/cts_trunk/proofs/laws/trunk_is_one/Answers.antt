use Rattle.cts_trunk.proofs.OneTrunk.{trunk_is_one_lem}
use Rattle.cts_trunk.proofs.laws.trunk_is_one.Goals as goal

pub returns : goal.returns
returns c = trunk_is_one_lem
