use Rattle.cts_embed.proofs.PlacedFits.{places_in_die}
use Rattle.cts_embed.proofs.laws.places_lie_in_die.Goals as goal

pub returns : goal.returns
returns c = places_in_die
