use Rattle.cts_embed.proofs.OnePlace.{placed_not_cut}
use Rattle.cts_embed.proofs.laws.placed_is_not_cut.Goals as goal

pub returns : goal.returns
returns c = placed_not_cut
