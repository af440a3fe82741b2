use Rattle.cts_merge.proofs.Merges.{balanced_not_beyond}
use Rattle.cts_merge.proofs.laws.balanced_is_not_beyond.Goals as goal

pub returns : goal.returns
returns c = balanced_not_beyond
