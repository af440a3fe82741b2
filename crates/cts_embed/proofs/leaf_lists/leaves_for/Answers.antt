-- One node further, a leaf adds the id and the pin of its sink, and a pair neither.
use Rattle.std.proofs.Common.{◌≡◌, ℕ, ◌+◌, ◌<◌, ◌∷◌, ◌++◌, [], List, Vec, Global, take, length, get_or, pos, sym, ap, subst, ◌∙◌, arith}
use Rattle.std.proofs.lemmas.List.{take_all}
use Rattle.cts_units.specs.declared.params.Sink.{Sink}
use Rattle.cts_topo.specs.declared.shape.ShapeNode.{ShapeNode}
use Rattle.cts_topo.specs.declared.shape.ShapeNode.TheVariants.{Leaf}
use Rattle.cts_topo.specs.Shape.{IsShapeOver}
use Rattle.cts_topo.proofs.Counts.{leaf_within}
use Rattle.cts_instance.specs.declared.parts.Parts.{Parts}
use Rattle.cts_elmore.specs.declared.pin_list.Pin.{Pin}
use Rattle.cts_elmore.specs.Loads.{pin_of}
use Rattle.cts_embed.specs.Stretches.{AreIds}
use Rattle.cts_embed.specs.LeafLists.{shape_pins}
use Rattle.cts_embed.proofs.StretchIds.{id_at_leaf, id_at_pair, ids_more}
use Rattle.cts_embed.proofs.LeafPins.{pins_at_leaf, pins_at_pair, placed_pins}
use Rattle.cts_embed.proofs.leaf_lists.leaves_for.Goals.{in-Leaf+in_ok-push-in-Leaf+in_ok-push-in-Leaf-2, in-Pair+in_ok-push-in-Pair}
use Rattle.cts_embed.proofs.leaf_lists.leaves_for.Goals as goal

-- the value past the end of the list
abbrev none : Sink
none = record { id = 0; x = pos 0; y = pos 0; cap = 0; offset = 0 }

pub bounds-sinks-sink : goal.bounds-sinks-sink
bounds-sinks-sink c =
    subst (λ (sinks : List Sink). c.in-Leaf.sink < length sinks) (sym c.sinks-sinks.ensures.part)
    (leaf_within (length c.args.instance.now.sinks) c.nodes-nodes.result.now
    (subst (IsShapeOver (length c.args.instance.now.sinks)) (sym c.nodes-nodes.ensures.nodes) c.requires.shape)
    c.loop-node.node-index (Leaf 0) c.in-Leaf.sink c.loop-node-test.true c.in-Leaf.is)

pub loop-node-preserved : goal.loop-node-preserved
loop-node-preserved c =
    let sinks : List Sink = c.args.instance.now.sinks in
    let nodes : List ShapeNode = c.nodes-nodes.result.now in
    let k : ℕ = c.loop-node.node-index in
    let h : k < length nodes = c.loop-node-test.true in
    let named = λ (ids : List ℕ). AreIds sinks (take (k + 1) nodes) ids in
    let listed = λ (pins : List Pin). pins ≡ shape_pins c.args.instance.now (take (k + 1) nodes) in
    elim c.match-node.branch [
      | in-Leaf+in_ok-push-in-Leaf+in_ok-push-in-Leaf-2 w ↦
          let s : ℕ = w.in-Leaf.sink in
          let within : s < length sinks =
          leaf_within (length sinks) nodes (subst (IsShapeOver (length sinks)) (sym c.nodes-nodes.ensures.nodes) c.requires.shape)
          k (Leaf 0) s h w.in-Leaf.is in (
            subst named (sym (ap (λ (v : Vec ℕ Global). v.items) w.ids-is ∙ w.in_ok-push-in-Leaf.ensures.items))
                (subst (λ (of : List Sink). named (c.loop-node.ids.items ++ (get_or of s none).id ∷ [])) (sym c.sinks-sinks.ensures.part)
                (ids_more sinks nodes k (Leaf 0) c.loop-node.ids.items (get_or sinks s none).id h c.loop-node.invariant.0
                (id_at_leaf sinks (get_or nodes k (Leaf 0)) s none w.in-Leaf.is within))),
            subst listed (sym (ap (λ (v : Vec Pin Global). v.items) w.pins-is ∙ w.in_ok-push-in-Leaf-2.ensures.items))
                (subst (λ (of : List Sink). listed (c.loop-node.pins.items ++ pin_of (get_or of s none) ∷ [])) (sym c.sinks-sinks.ensures.part)
                (pins_at_leaf c.args.instance.now nodes k (Leaf 0) h c.loop-node.pins.items c.loop-node.invariant.1
                s w.in-Leaf.is none within)),
          )
      | in-Pair+in_ok-push-in-Pair w ↦ (
        subst named (sym (ap (λ (v : Vec ℕ Global). v.items) w.ids-is ∙ w.in_ok-push-in-Pair.ensures.items))
            (ids_more sinks nodes k (Leaf 0) c.loop-node.ids.items 0 h c.loop-node.invariant.0
            (id_at_pair sinks (get_or nodes k (Leaf 0)) w.in-Pair.left w.in-Pair.right 0 w.in-Pair.is)),
        subst listed (sym (ap (λ (v : Vec Pin Global). v.items) w.pins-is))
            (pins_at_pair c.args.instance.now nodes k (Leaf 0) h c.loop-node.pins.items c.loop-node.invariant.1
            w.in-Pair.left w.in-Pair.right w.in-Pair.is),
      )
    ]

pub returns : goal.returns
returns c =
    let i : Parts = c.args.instance.now in
    let nodes : List ShapeNode = c.nodes-nodes.result.now in
    let whole : take c.loop-node.node-index nodes ≡ c.args.shape.now =
    take_all c.loop-node.node-index nodes (omega (arith, c.loop-node-test.false)) ∙ c.nodes-nodes.ensures.nodes in
    record {
      ids = subst (λ ns. AreIds i.sinks ns c.loop-node.ids.items) whole c.loop-node.invariant.0;
      pins = λ placed is.
          placed_pins i c.args.shape.now c.requires.shape.post_order c.loop-node.pins.items
          (c.loop-node.invariant.1 ∙ ap (shape_pins i) whole) placed is;
    }
