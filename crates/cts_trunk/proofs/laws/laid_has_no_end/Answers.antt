use Rattle.cts_trunk.proofs.OneTrunk.{laid_has_no_end_lem}
use Rattle.cts_trunk.proofs.laws.laid_has_no_end.Goals as goal

pub returns : goal.returns
returns c = laid_has_no_end_lem
