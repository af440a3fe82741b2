use Rattle.cts_elmore.proofs.AddUp.{paths_add_up_lem}
use Rattle.cts_elmore.proofs.laws.paths_add_up.Goals as goal

pub returns : goal.returns
returns c = paths_add_up_lem
