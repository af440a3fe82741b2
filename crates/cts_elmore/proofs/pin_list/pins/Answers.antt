use Rattle.std.proofs.Common.{◌≡◌, ◌+◌, ◌<◌, ◌∷◌, ◌++◌, [], ℕ, List, Vec, Global, take, length, get_or, pos, IfSome, sym, ap, subst, ◌∙◌}
use Rattle.cts_units.specs.declared.params.Sink.{Sink}
use Rattle.cts_tree.specs.declared.nodes.NodeKind.{NodeKind}
use Rattle.cts_tree.specs.declared.nodes.NodeKind.TheVariants.{Leaf}
use Rattle.cts_tree.specs.declared.nodes.TreeNode.{TreeNode}
use Rattle.cts_tree.specs.Nodes.{leaf_sink}
use Rattle.cts_elmore.specs.declared.pin_list.Pin.{Pin}
use Rattle.cts_elmore.specs.Loads.{pin_of, leaf_pins}
use Rattle.cts_elmore.proofs.LeafPins.{listed_leaf, listed_pair}
use Rattle.cts_elmore.proofs.pin_list.pins.Goals.{in-Leaf+in_ok-push-in-Leaf, in-Pair}
use Rattle.cts_elmore.proofs.pin_list.pins.Goals as goal

-- the value past the end of the list
abbrev none : Sink
none = record { id = 0; x = pos 0; y = pos 0; cap = 0; offset = 0 }

pub loop-node-preserved : goal.loop-node-preserved
loop-node-preserved c =
    let k : ℕ = c.loop-node.node-index in
    let e : TreeNode = c.node-item.result in
    let kind : (get_or c.args.nodes.now k e).kind ≡ e.kind = ap (λ (node : TreeNode). node.kind) (sym c.node-item.is) in
    let are = λ (items : List Pin). items ≡ leaf_pins c.args.instance.now (take (k + 1) c.args.nodes.now) in
    elim c.match-node.branch [
      | in-Leaf+in_ok-push-in-Leaf w ↦
          let here : (get_or c.args.nodes.now k e).kind ≡ Leaf w.in-Leaf.id w.in-Leaf.sink = kind ∙ w.in-Leaf.is in
          let within : w.in-Leaf.sink < length c.args.instance.now.sinks =
          subst (λ (of : NodeKind). IfSome (leaf_sink of) (λ sink. sink < length c.args.instance.now.sinks)) here
          (c.requires k e c.loop-node-test.true) in
          subst are (sym (ap (λ (v : Vec Pin Global). v.items) w.pins-is ∙ w.in_ok-push-in-Leaf.ensures.items))
          (subst (λ (sinks : List Sink). are (c.loop-node.pins.items ++ pin_of (get_or sinks w.in-Leaf.sink none) ∷ []))
          (sym c.sinks-sinks.ensures.part)
          (listed_leaf c.args.instance.now c.args.nodes.now k e c.loop-node-test.true
          c.loop-node.pins.items c.loop-node.invariant w.in-Leaf.id w.in-Leaf.sink here none within))
      | in-Pair w ↦
          subst are (sym (ap (λ (v : Vec Pin Global). v.items) w.pins-is))
          (listed_pair c.args.instance.now c.args.nodes.now k e c.loop-node-test.true
          c.loop-node.pins.items c.loop-node.invariant w.in-Pair.left w.in-Pair.right w.in-Pair.buffer (kind ∙ w.in-Pair.is))
    ]
