use Rattle.cts_merge.proofs.Merges.{balance_pair_one}
use Rattle.cts_merge.proofs.laws.balance_pair_is_one.Goals as goal

pub returns : goal.returns
returns c = balance_pair_one
