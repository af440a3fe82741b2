use Rattle.cts_topo.proofs.Whole.{shapes_name_each_sink_lem}
use Rattle.cts_topo.proofs.laws.shapes_name_each_sink.Goals as goal

pub returns : goal.returns
returns c = shapes_name_each_sink_lem
