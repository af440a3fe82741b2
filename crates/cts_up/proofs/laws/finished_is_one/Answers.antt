use Rattle.cts_up.proofs.Unique.{finished_one}
use Rattle.cts_up.proofs.laws.finished_is_one.Goals as goal

pub returns : goal.returns
returns c = finished_one
