use Rattle.cts_merge.proofs.Merges.{merge_pair_exists}
use Rattle.cts_merge.proofs.laws.merge_pair_exists.Goals as goal

pub returns : goal.returns
returns c = merge_pair_exists
