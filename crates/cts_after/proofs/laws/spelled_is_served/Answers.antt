use Rattle.cts_after.proofs.Inputs.{spelled_is_served_lem}
use Rattle.cts_after.proofs.laws.spelled_is_served.Goals as goal

pub returns : goal.returns
returns c = spelled_is_served_lem
