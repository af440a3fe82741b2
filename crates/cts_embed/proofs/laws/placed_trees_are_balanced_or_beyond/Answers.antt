use Rattle.cts_embed.proofs.BalanceExists.{balanced_or_beyond}
use Rattle.cts_embed.proofs.laws.placed_trees_are_balanced_or_beyond.Goals as goal

pub returns : goal.returns
returns c = balanced_or_beyond
