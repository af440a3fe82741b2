use Rattle.std.proofs.Common.{refl}
use Rattle.cts_plain.proofs.below.balance_of.Goals as goal

pub returns : goal.returns
returns c = c.leaf_balance.ensures c.args.sink.now refl
