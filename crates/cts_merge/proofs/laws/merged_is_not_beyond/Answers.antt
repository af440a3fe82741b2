use Rattle.cts_merge.proofs.Merges.{merged_not_beyond}
use Rattle.cts_merge.proofs.laws.merged_is_not_beyond.Goals as goal

pub returns : goal.returns
returns c = merged_not_beyond
