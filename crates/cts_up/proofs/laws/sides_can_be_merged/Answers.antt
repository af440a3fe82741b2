use Rattle.cts_up.proofs.Sides.{sides_merge}
use Rattle.cts_up.proofs.laws.sides_can_be_merged.Goals as goal

pub returns : goal.returns
returns c = sides_merge
