use Rattle.cts_merge.proofs.Merges.{balance_pair_exists}
use Rattle.cts_merge.proofs.laws.balance_pair_exists.Goals as goal

pub returns : goal.returns
returns c = balance_pair_exists
