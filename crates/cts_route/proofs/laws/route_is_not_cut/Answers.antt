use Rattle.cts_route.proofs.Unique.{route_not_cut}
use Rattle.cts_route.proofs.laws.route_is_not_cut.Goals as goal

pub returns : goal.returns
returns c = route_not_cut
