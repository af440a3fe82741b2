use Rattle.cts_merge.proofs.Exists.{leaf_there}
use Rattle.cts_merge.proofs.laws.leaf_exists.Goals as goal

pub returns : goal.returns
returns c = leaf_there
