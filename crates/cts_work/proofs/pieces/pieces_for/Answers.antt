use Rattle.std.proofs.Common.{◌-◌, length, arith}
use Rattle.cts_postorder.proofs.Lists.{length_pos}
use Rattle.cts_topo.specs.Shape.{children}
use Rattle.cts_topo.proofs.Counts.{length-shape}
use Rattle.cts_work.proofs.Parts.{whole_is_part}
use Rattle.cts_work.proofs.pieces.pieces_for.Goals as goal

pub overflow_cast-nodes : goal.overflow_cast-nodes
overflow_cast-nodes c = omega (arith, length-shape c.args.count c.args.nodes.now c.requires.shape, c.requires.most)

pub overflow_sub-nodes : goal.overflow_sub-nodes
overflow_sub-nodes c = omega (arith, length_pos children c.args.nodes.now c.requires.shape.post_order)

pub divide-requires-clause-part : goal.divide-requires-clause-part
divide-requires-clause-part c =
    whole_is_part c.args.nodes.now c.args.count (length c.args.nodes.now - 1) c.requires.shape
    (omega (arith, length_pos children c.args.nodes.now c.requires.shape.post_order))
