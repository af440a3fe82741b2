use Rattle.cts_route.proofs.ClearWay.{clear_way_route}
use Rattle.cts_route.proofs.laws.clear_way_is_route.Goals as goal

pub returns : goal.returns
returns c = clear_way_route
