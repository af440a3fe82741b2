use Rattle.cts_embed.proofs.OnePlace.{greatest_cut_one}
use Rattle.cts_embed.proofs.laws.greatest_cut_is_one.Goals as goal

pub returns : goal.returns
returns c = greatest_cut_one
