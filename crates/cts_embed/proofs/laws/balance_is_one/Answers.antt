use Rattle.cts_embed.proofs.Unique.{balance_one}
use Rattle.cts_embed.proofs.laws.balance_is_one.Goals as goal

pub returns : goal.returns
returns c = balance_one
