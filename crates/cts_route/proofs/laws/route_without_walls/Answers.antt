use Rattle.cts_route.proofs.ClearWay.{without_walls}
use Rattle.cts_route.proofs.laws.route_without_walls.Goals as goal

pub returns : goal.returns
returns c = without_walls
