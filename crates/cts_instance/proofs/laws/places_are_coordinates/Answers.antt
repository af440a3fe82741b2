use Rattle.cts_instance.proofs.PlaceLemmas.{has_coordinates}
use Rattle.cts_instance.proofs.laws.places_are_coordinates.Goals as goal

pub returns : goal.returns
returns c = has_coordinates
