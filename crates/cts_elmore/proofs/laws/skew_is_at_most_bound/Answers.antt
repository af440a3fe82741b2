use Rattle.cts_elmore.proofs.Below.{skew_within}
use Rattle.cts_elmore.proofs.laws.skew_is_at_most_bound.Goals as goal

pub returns : goal.returns
returns c = skew_within
