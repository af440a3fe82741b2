use Rattle.std.proofs.Common.{◌+◌, length, Vec, Global, sym, ap, subst, ◌∙◌}
use Rattle.cts_units.specs.declared.params.Sink.{Sink}
use Rattle.cts_topo.proofs.Counts.{named_within}
use Rattle.cts_up.proofs.LeafOrder.{AreNamed, named_at_leaf, named_at_pair}
use Rattle.cts_up.proofs.ascent.sinks_of_leaves.Goals as goal
use Rattle.cts_up.proofs.ascent.sinks_of_leaves.Goals.{in-Leaf+in_ok-push-in-Leaf, in-Pair}

pub bounds-sinks-sink : goal.bounds-sinks-sink
bounds-sinks-sink c =
    named_within (length c.args.sinks.now) c.args.nodes.now c.requires.within c.loop-node.node-index _ _ c.loop-node-test.true c.in-Leaf.is

pub loop-node-preserved : goal.loop-node-preserved
loop-node-preserved c =
    let named = AreNamed c.args.sinks.now c.args.nodes.now (c.loop-node.node-index + 1) in
    elim c.match-node.branch [
      | in-Leaf+in_ok-push-in-Leaf w ↦
          subst named (sym (ap (λ (v : Vec Sink Global). v.items) w.named-is ∙ w.in_ok-push-in-Leaf.ensures.items))
          (named_at_leaf c.args.sinks.now c.args.nodes.now c.requires.within c.loop-node.node-index c.loop-node-test.true _
          c.loop-node.named.items c.loop-node.invariant w.in-Leaf.sink _ w.in-Leaf.is)
      | in-Pair w ↦
          subst named (sym (ap (λ (v : Vec Sink Global). v.items) w.named-is))
          (named_at_pair c.args.sinks.now c.args.nodes.now c.requires.within c.loop-node.node-index c.loop-node-test.true _
          c.loop-node.named.items c.loop-node.invariant w.in-Pair.left w.in-Pair.right w.in-Pair.is)
    ]
