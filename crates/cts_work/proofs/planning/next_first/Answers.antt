use Rattle.std.proofs.Common.{length, arith}
use Rattle.cts_topo.proofs.Counts.{length-shape}
use Rattle.cts_work.proofs.planning.next_first.Goals as goal

pub overflow_cast-result : goal.overflow_cast-result
overflow_cast-result c =
    omega (arith, length-shape (length c.args.work.now.sinks.now) c.args.work.now.nodes.now c.requires.ready.shape, c.requires.ready.sinks.few)
