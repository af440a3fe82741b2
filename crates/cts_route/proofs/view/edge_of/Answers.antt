use Rattle.cts_route.proofs.Edges.{east_edge, west_edge, north_edge, south_edge}
use Rattle.cts_route.proofs.view.edge_of.Goals as goal

pub returns-in-East : goal.returns-in-East
returns-in-East c = east_edge c.args.columns c.args.height c.args.direction c.requires.columns.0 c.in-East.is

pub returns-in-West : goal.returns-in-West
returns-in-West c = west_edge c.args.columns c.args.height c.args.direction c.requires.columns.0 c.in-West.is

pub returns-in-North : goal.returns-in-North
returns-in-North c = north_edge c.args.columns c.args.height c.args.direction c.requires.height.0 c.in-North.is

pub returns-in-South : goal.returns-in-South
returns-in-South c = south_edge c.args.columns c.args.height c.args.direction c.requires.height.0 c.in-South.is
