use Rattle.cts_plain.proofs.FewCorners.{trees_few_corners}
use Rattle.cts_plain.proofs.laws.trees_have_few_corners.Goals as goal

pub returns : goal.returns
returns c = trees_few_corners
