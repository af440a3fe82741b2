use Rattle.cts_embed.proofs.OnePlace.{placed_tree_one}
use Rattle.cts_embed.proofs.laws.placed_tree_is_one.Goals as goal

pub returns : goal.returns
returns c = placed_tree_one
