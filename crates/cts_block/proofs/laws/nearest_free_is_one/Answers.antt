use Rattle.cts_block.proofs.LawLemmas.{one_nearest_free}
use Rattle.cts_block.proofs.laws.nearest_free_is_one.Goals as goal

pub returns : goal.returns
returns _ = one_nearest_free
