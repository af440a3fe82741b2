use Rattle.cts_up.proofs.Unique.{plan_one}
use Rattle.cts_up.proofs.laws.plan_is_one.Goals as goal

pub returns : goal.returns
returns c = plan_one
