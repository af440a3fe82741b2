use Rattle.cts_up.proofs.Unique.{least_beyond_one}
use Rattle.cts_up.proofs.laws.least_beyond_is_one.Goals as goal

pub returns : goal.returns
returns c = least_beyond_one
