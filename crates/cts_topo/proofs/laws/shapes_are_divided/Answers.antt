use Rattle.cts_topo.proofs.Whole.{shapes_are_divided_lem}
use Rattle.cts_topo.proofs.laws.shapes_are_divided.Goals as goal

pub returns : goal.returns
returns c = shapes_are_divided_lem
