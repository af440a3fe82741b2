use Rattle.cts_embed.proofs.Unique.{balanced_tree_one}
use Rattle.cts_embed.proofs.laws.balanced_tree_is_one.Goals as goal

pub returns : goal.returns
returns c = balanced_tree_one
