use Rattle.cts_topo.proofs.Whole.{shapes_are_shallow_lem}
use Rattle.cts_topo.proofs.laws.shapes_are_shallow.Goals as goal

pub returns : goal.returns
returns c = shapes_are_shallow_lem
