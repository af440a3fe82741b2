-- The pins of the leaves of a shape: how they are listed, and that a placed tree of the shape has them.
use Rattle.std.proofs.Common.{◌≡◌, ℕ, ◌+◌, ◌<◌, List, [], ◌∷◌, ◌++◌, map, take, length, get_or, slice_get, Option, Some, None, refl, sym, ap, ◌∙◌, append-nil}
use Rattle.std.specs.List.{AllZip, cons_option}
use Rattle.std.specs.Option.{option_and_then, option_map}
use Rattle.std.proofs.lemmas.List.{take_more}
use Rattle.std.proofs.lemmas.List.Elements.{filter_map-append}
use Rattle.std.proofs.lemmas.Option.{slice_get-get_or}
use Rattle.cts_units.specs.declared.params.Sink.{Sink}
use Rattle.cts_postorder.specs.BinaryTree.{label}
use Rattle.cts_postorder.specs.PostOrder.{IsPostOrder}
use Rattle.cts_postorder.specs.Occurrence.{Occurrence, occurrences_of}
use Rattle.cts_postorder.proofs.Alike.{map-node-occurrences_of}
use Rattle.cts_topo.specs.declared.shape.ShapeNode.{ShapeNode}
use Rattle.cts_topo.specs.declared.shape.ShapeNode.TheVariants.{Leaf, Pair}
use Rattle.cts_topo.specs.Shape.{children}
use Rattle.cts_tree.specs.declared.nodes.NodeKind.{NodeKind}
use Rattle.cts_tree.specs.declared.nodes.TreeNode.{TreeNode}
use Rattle.cts_tree.specs.Nodes.{leaf_sink}
use Rattle.cts_instance.specs.declared.parts.Parts.{Parts}
use Rattle.cts_elmore.specs.declared.pin_list.Pin.{Pin}
use Rattle.cts_elmore.specs.Loads.{pin_of, leaf_pins}
use Rattle.cts_embed.specs.Places.{kind_of}
use Rattle.cts_embed.specs.PlacedTree.{IsPlacedNode, IsPlacedTree}
use Rattle.cts_embed.proofs.NodeKinds.{leaf_kind, pair_kind}
use Rattle.cts_embed.specs.LeafLists.{shape_pin, shape_pins}

module _ (i : Parts) where
  module _ (nodes : List ShapeNode) (k : ℕ) (e : ShapeNode) (h : k < length nodes) where
    -- those of a front, one node further
    more : shape_pins i (take (k + 1) nodes) ≡ shape_pins i (take k nodes) ++ cons_option (shape_pin i (get_or nodes k e)) []
    more =
        ap (shape_pins i) (take_more nodes k e h) ∙ filter_map-append (shape_pin i) (take k nodes) (get_or nodes k e ∷ [])

    module _ (pins : List Pin) (are : pins ≡ shape_pins i (take k nodes)) where
      pub pins_at_leaf : (s : ℕ) → get_or nodes k e ≡ Leaf s → (d : Sink) → s < length i.sinks
          → pins ++ pin_of (get_or i.sinks s d) ∷ [] ≡ shape_pins i (take (k + 1) nodes)
      pins_at_leaf s is d within =
          let here : shape_pin i (get_or nodes k e) ≡ Some (pin_of (get_or i.sinks s d)) =
          ap (shape_pin i) is ∙ ap (λ (o : Option Sink). option_map pin_of o) (slice_get-get_or i.sinks s d within) in
          ap (λ xs. xs ++ pin_of (get_or i.sinks s d) ∷ []) are
          ∙ ap (λ o. shape_pins i (take k nodes) ++ cons_option o []) (sym here) ∙ sym more

      pub pins_at_pair : (l r : ℕ) → get_or nodes k e ≡ Pair l r → pins ≡ shape_pins i (take (k + 1) nodes)
      pins_at_pair l r is =
          let here : shape_pin i (get_or nodes k e) ≡ None = ap (shape_pin i) is in
          are ∙ sym (append-nil (shape_pins i (take k nodes)))
          ∙ ap (λ o. shape_pins i (take k nodes) ++ cons_option o []) (sym here) ∙ sym more

  -- a placed node has the pin of its node of the shape
  same_pin : (n : ShapeNode) (buffer : Option ℕ) (kind : NodeKind) → kind_of i.sinks n buffer ≡ Some kind
      → option_map pin_of (option_and_then (slice_get i.sinks) (leaf_sink kind)) ≡ shape_pin i n
  same_pin (Leaf s) buffer kind is =
      ap (λ (k : NodeKind). option_map pin_of (option_and_then (slice_get i.sinks) (leaf_sink k)))
      (leaf_kind i.sinks s buffer kind is).is
  same_pin (Pair l r) buffer kind is =
      ap (λ (k : NodeKind). option_map pin_of (option_and_then (slice_get i.sinks) (leaf_sink k)))
      (pair_kind i.sinks l r buffer kind is)

  same_pins : (os : List (Occurrence ShapeNode)) (placed : List TreeNode) → AllZip (IsPlacedNode i) os placed
      → leaf_pins i placed ≡ shape_pins i (map (λ (o : Occurrence ShapeNode). label o.here) os)
  same_pins [] [] all = refl
  same_pins [] (node ∷ placed) all = absurd all
  same_pins (o ∷ os) [] all = absurd all
  same_pins (o ∷ os) (node ∷ placed) all =
      ap (λ pin. cons_option pin (leaf_pins i placed)) (same_pin (label o.here) all.0.finished.buffer node.kind all.0.placed.kind)
      ∙ ap (cons_option (shape_pin i (label o.here))) (same_pins os placed (all.1))

  -- a placed tree has the pins of its shape
  pub placed_pins : (shape : List ShapeNode) → IsPostOrder (map children shape) → (pins : List Pin) → pins ≡ shape_pins i shape
      → (placed : List TreeNode) → IsPlacedTree i shape placed → pins ≡ leaf_pins i placed
  placed_pins shape ok pins are placed is =
      are ∙ sym (ap (shape_pins i) (map-node-occurrences_of children shape ok))
      ∙ sym (same_pins (occurrences_of children shape) placed is)
