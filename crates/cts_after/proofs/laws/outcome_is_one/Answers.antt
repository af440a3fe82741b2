use Rattle.cts_after.proofs.Unique.{outcome_is_one_lem}
use Rattle.cts_after.proofs.laws.outcome_is_one.Goals as goal

pub returns : goal.returns
returns c = outcome_is_one_lem
