use Rattle.cts_near.proofs.Plans.{have_plans}
use Rattle.cts_near.proofs.laws.near_shapes_have_plans.Goals as goal

pub returns : goal.returns
returns c = have_plans
