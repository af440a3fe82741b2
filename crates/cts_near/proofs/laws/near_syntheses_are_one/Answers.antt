use Rattle.cts_near.proofs.OneTree.{near_syntheses_one}
use Rattle.cts_near.proofs.laws.near_syntheses_are_one.Goals as goal

pub returns : goal.returns
returns c = near_syntheses_one
