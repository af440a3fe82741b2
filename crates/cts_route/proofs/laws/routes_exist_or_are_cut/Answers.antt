use Rattle.cts_route.proofs.Exists.{route_or_cut}
use Rattle.cts_route.proofs.laws.routes_exist_or_are_cut.Goals as goal

pub returns : goal.returns
returns c = route_or_cut
