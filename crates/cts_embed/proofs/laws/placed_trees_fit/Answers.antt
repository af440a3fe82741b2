use Rattle.cts_embed.proofs.PlacedFits.{placed_trees_fit_lem}
use Rattle.cts_embed.proofs.laws.placed_trees_fit.Goals as goal

pub returns : goal.returns
returns c = placed_trees_fit_lem
