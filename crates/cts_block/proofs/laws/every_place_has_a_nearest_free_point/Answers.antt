use Rattle.cts_block.proofs.LawLemmas.{some_nearest_free}
use Rattle.cts_block.proofs.laws.every_place_has_a_nearest_free_point.Goals as goal

pub returns : goal.returns
returns _ = some_nearest_free
