use Rattle.cts_up.proofs.Exists.{plan_or_beyond}
use Rattle.cts_up.proofs.laws.shapes_have_plans.Goals as goal

pub returns : goal.returns
returns c = plan_or_beyond
