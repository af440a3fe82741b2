use Rattle.cts_near.proofs.One.{near_one}
use Rattle.cts_near.proofs.laws.near_is_one.Goals as goal

pub returns : goal.returns
returns c = near_one
