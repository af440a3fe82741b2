use Rattle.std.proofs.Common.{max, sym, ap, ◌∙◌, subst, arith}
use Rattle.cts_report.specs.Printed.{PrintedNode}
use Rattle.cts_report_reader.specs.Nodes.{seen_node}
use Rattle.cts_picture.specs.Drawable.{IsDrawableNode}
use Rattle.cts_picture.proofs.Pieces.{folded_step}
use Rattle.cts_picture.proofs.legend.greatest_slew.Goals as goal

pub loop-node-preserved : goal.loop-node-preserved
loop-node-preserved c =
    let step = folded_step (λ slew (node : PrintedNode). max slew node.slew) 0 seen_node c.args.nodes.now c.loop-node.node-index
    c.node-item.result c.loop-node-test.true c.node-item.is in
    let node : IsDrawableNode c.node-item.result =
    subst IsDrawableNode (sym c.node-item.is) (c.requires c.loop-node.node-index c.node-item.result c.loop-node-test.true) in (
      c.max-slew.ensures ∙ ap (λ slew. max slew c.node-item.result.slew) c.loop-node.invariant.0 ∙ sym step,
      omega (arith, c.max-slew.ensures, c.loop-node.invariant.1, node.slew),
    )
