use Rattle.cts_near.proofs.Covers.{names_each_sink}
use Rattle.cts_near.proofs.laws.near_shapes_name_each_sink.Goals as goal

pub returns : goal.returns
returns c = names_each_sink
