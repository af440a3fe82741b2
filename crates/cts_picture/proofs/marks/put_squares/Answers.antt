use Rattle.std.proofs.Common.{map, subst, sym, take_all, arith}
use Rattle.std.specs.List.{flat_map}
use Rattle.cts_io.specs.Text.{Puts}
use Rattle.cts_io.proofs.Chains.{◌▸◌, puts_nothing}
use Rattle.cts_report.specs.Printed.{PrintedNode}
use Rattle.cts_report_reader.specs.Nodes.{seen_node}
use Rattle.cts_picture.specs.Drawable.{IsDrawableNode}
use Rattle.cts_picture.specs.Sheet.{buffer_text}
use Rattle.cts_picture.proofs.Pieces.{lent_step}
use Rattle.cts_picture.proofs.marks.put_squares.Goals as goal

pub loop-node-init : goal.loop-node-init
loop-node-init g c = puts_nothing _ _

pub put_buffer-requires-clause-stroke : goal.put_buffer-requires-clause-stroke
put_buffer-requires-clause-stroke g c = c.requires.stroke

pub put_buffer-requires-clause-place : goal.put_buffer-requires-clause-place
put_buffer-requires-clause-place g c =
    let node : IsDrawableNode c.node-item.result =
    subst IsDrawableNode (sym c.node-item.is) (c.requires.nodes c.loop-node.node-index c.node-item.result c.loop-node-test.true) in
    node.seen.place

pub loop-node-preserved : goal.loop-node-preserved
loop-node-preserved g c =
    lent_step (λ text. Puts g.K.ByteSink (c.args.sink.now, c.args.out.now) (c.put_buffer.new.sink, c.put_buffer.new.out) text)
    (λ (node : PrintedNode). buffer_text c.args.stroke node.place node.kind) seen_node c.args.nodes.now c.loop-node.node-index
    c.node-item.result c.loop-node-test.true c.node-item.is (c.loop-node.invariant ▸ c.put_buffer.ensures)

pub returns : goal.returns
returns g c =
    subst
    (λ nodes. Puts g.K.ByteSink (c.args.sink.now, c.args.out.now) (c.loop-node.sink, c.loop-node.out)
    (flat_map (λ node. buffer_text c.args.stroke node.place node.kind) (map seen_node nodes)))
    (take_all c.loop-node.node-index c.args.nodes.now (omega (arith, c.loop-node-test.false)))
    c.loop-node.invariant
