use Rattle.cts_embed.proofs.FreePlaces.{pair_places_free}
use Rattle.cts_embed.proofs.laws.pair_places_are_free.Goals as goal

pub returns : goal.returns
returns c = pair_places_free
