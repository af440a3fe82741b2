use Rattle.cts_merge.proofs.Merges.{leaf_one}
use Rattle.cts_merge.proofs.laws.leaf_is_one.Goals as goal

pub returns : goal.returns
returns c = leaf_one
