use Rattle.cts_trunk.proofs.OneTrunk.{end_is_one_lem}
use Rattle.cts_trunk.proofs.laws.end_is_one.Goals as goal

pub returns : goal.returns
returns c = end_is_one_lem
