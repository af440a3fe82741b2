use Rattle.cts_elmore.proofs.SinkCount.{one_leaf_a_sink}
use Rattle.cts_elmore.proofs.laws.sound_trees_have_one_leaf_a_sink.Goals as goal

pub returns : goal.returns
returns c = one_leaf_a_sink
