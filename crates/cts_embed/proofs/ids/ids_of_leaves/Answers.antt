use Rattle.std.proofs.Common.{◌≡◌, ◌+◌, length, take, List, ℕ, Vec, Global, sym, ap, subst, ◌∙◌}
use Rattle.cts_topo.proofs.Counts.{leaf_within}
use Rattle.cts_embed.specs.Leaves.{ids_of_leaves}
use Rattle.cts_embed.proofs.LeafIds.{ids_at_leaf, ids_at_pair}
use Rattle.cts_embed.proofs.ids.ids_of_leaves.Goals as goal
use Rattle.cts_embed.proofs.ids.ids_of_leaves.Goals.{in-Leaf+in_ok-push-in-Leaf, in-Pair}

pub bounds-sinks-sink : goal.bounds-sinks-sink
bounds-sinks-sink c =
    leaf_within (length c.args.sinks.now) c.args.nodes.now c.requires.shape c.loop-node.node-index _ _ c.loop-node-test.true c.in-Leaf.is

pub loop-node-preserved : goal.loop-node-preserved
loop-node-preserved c =
    let are = λ (ids : List ℕ). ids ≡ ids_of_leaves c.args.sinks.now (take (c.loop-node.node-index + 1) c.args.nodes.now) in
    elim c.match-node.branch [
      | in-Leaf+in_ok-push-in-Leaf w ↦
          subst are (sym (ap (λ (v : Vec ℕ Global). v.items) w.ids-is ∙ w.in_ok-push-in-Leaf.ensures.items))
          (ids_at_leaf c.args.sinks.now c.args.nodes.now c.loop-node.node-index _ c.loop-node-test.true
          c.loop-node.ids.items c.loop-node.invariant w.in-Leaf.sink _ w.in-Leaf.is
          (leaf_within (length c.args.sinks.now) c.args.nodes.now c.requires.shape c.loop-node.node-index _ _ c.loop-node-test.true w.in-Leaf.is))
      | in-Pair w ↦
          subst are (sym (ap (λ (v : Vec ℕ Global). v.items) w.ids-is))
          (ids_at_pair c.args.sinks.now c.args.nodes.now c.loop-node.node-index _ c.loop-node-test.true
          c.loop-node.ids.items c.loop-node.invariant w.in-Pair.left w.in-Pair.right w.in-Pair.is)
    ]
