use Rattle.cts_trunk.proofs.Shifts.{skew_stays_lem}
use Rattle.cts_trunk.proofs.laws.skew_stays.Goals as goal

pub returns : goal.returns
returns c = skew_stays_lem
