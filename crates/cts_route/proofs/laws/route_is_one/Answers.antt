use Rattle.cts_route.proofs.Unique.{route_one}
use Rattle.cts_route.proofs.laws.route_is_one.Goals as goal

pub returns : goal.returns
returns c = route_one
