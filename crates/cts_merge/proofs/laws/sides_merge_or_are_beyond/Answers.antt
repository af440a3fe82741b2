use Rattle.cts_merge.proofs.Exists.{merged_or_beyond}
use Rattle.cts_merge.proofs.laws.sides_merge_or_are_beyond.Goals as goal

pub returns : goal.returns
returns c = merged_or_beyond
