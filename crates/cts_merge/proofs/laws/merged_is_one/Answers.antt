use Rattle.cts_merge.proofs.Merges.{merged_one}
use Rattle.cts_merge.proofs.laws.merged_is_one.Goals as goal

pub returns : goal.returns
returns c = merged_one
