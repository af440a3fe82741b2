use Rattle.cts_instance.proofs.PlaceLemmas.{has_free_places}
use Rattle.cts_instance.proofs.laws.places_are_free.Goals as goal

pub returns : goal.returns
returns c = has_free_places
