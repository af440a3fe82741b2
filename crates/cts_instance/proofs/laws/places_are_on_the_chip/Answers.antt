use Rattle.cts_instance.proofs.PlaceLemmas.{has_places_on_chip}
use Rattle.cts_instance.proofs.laws.places_are_on_the_chip.Goals as goal

pub returns : goal.returns
returns c = has_places_on_chip
