use Rattle.cts_elmore.proofs.AddUp.{pairs_add_up_lem}
use Rattle.cts_elmore.proofs.laws.pairs_add_up.Goals as goal

pub returns : goal.returns
returns c = pairs_add_up_lem
