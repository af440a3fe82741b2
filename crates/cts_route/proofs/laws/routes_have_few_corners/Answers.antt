use Rattle.cts_route.proofs.FewCorners.{few_corners}
use Rattle.cts_route.proofs.laws.routes_have_few_corners.Goals as goal

pub returns : goal.returns
returns c = few_corners
