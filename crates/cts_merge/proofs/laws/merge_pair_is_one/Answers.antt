use Rattle.cts_merge.proofs.Merges.{merge_pair_one}
use Rattle.cts_merge.proofs.laws.merge_pair_is_one.Goals as goal

pub returns : goal.returns
returns c = merge_pair_one
