use Rattle.cts_route.proofs.Legal.{routes_legal}
use Rattle.cts_route.proofs.laws.routes_are_legal.Goals as goal

pub returns : goal.returns
returns c = routes_legal
