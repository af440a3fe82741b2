use Rattle.cts_embed.proofs.Beyond.{balanced_tree_not_beyond}
use Rattle.cts_embed.proofs.laws.balanced_is_not_beyond.Goals as goal

pub returns : goal.returns
returns c = balanced_tree_not_beyond
