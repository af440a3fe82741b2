use Rattle.cts_picture.proofs.Once.{each_node_has_one_wire}
use Rattle.cts_picture.proofs.laws.each_node_has_one_wire.Goals as goal

pub returns : goal.returns
returns c = each_node_has_one_wire
