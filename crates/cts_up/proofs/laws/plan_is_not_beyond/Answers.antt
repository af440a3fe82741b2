use Rattle.cts_up.proofs.Unique.{plan_not_beyond}
use Rattle.cts_up.proofs.laws.plan_is_not_beyond.Goals as goal

pub returns : goal.returns
returns c = plan_not_beyond
