-- The pins of the leaves, one node after the other: how they are listed, and how they are taken.
use Rattle.std.proofs.Common.{◌≡◌, ℕ, ◌+◌, ◌<◌, List, [], ◌∷◌, ◌++◌, take, drop, length, get_or, slice_get, Option, Some, None, pos, sym, ap, ap₂, ◌∙◌, append-nil, drop-cons, suc, arith}
use Rattle.std.specs.List.{cons_option}
use Rattle.std.specs.Option.{option_and_then, option_map, option_map_or}
use Rattle.std.proofs.lemmas.List.{take_more}
use Rattle.std.proofs.lemmas.List.Elements.{filter_map-append}
use Rattle.std.proofs.lemmas.Option.{slice_get-get_or}
use Rattle.cts_units.specs.declared.params.Sink.{Sink}
use Rattle.cts_tree.specs.declared.nodes.NodeKind.{NodeKind}
use Rattle.cts_tree.specs.declared.nodes.NodeKind.TheVariants.{Leaf, Pair}
use Rattle.cts_tree.specs.declared.nodes.TreeNode.{TreeNode}
use Rattle.cts_tree.specs.Nodes.{leaf_sink}
use Rattle.cts_instance.specs.declared.parts.Parts.{Parts}
use Rattle.cts_elmore.specs.declared.pin_list.Pin.{Pin}
use Rattle.cts_elmore.specs.Loads.{sink_load, sink_offset, pin_of, leaf_pin, leaf_pins}

module _ (i : Parts) where
  -- the pin of a leaf's sink, told of the node
  abbrev pub sink_pin : TreeNode → Pin
  sink_pin node = record { cap = sink_load i node; offset = sink_offset i node }

  -- what one node has, where its kind is known
  at_leaf : (node : TreeNode) (id s : ℕ) → node.kind ≡ Leaf id s → (d : Sink) → s < length i.sinks
      → leaf_pin i node ≡ Some (pin_of (get_or i.sinks s d))
  at_leaf node id s is d within =
      ap (λ (kind : NodeKind). option_map pin_of (option_and_then (slice_get i.sinks) (leaf_sink kind))) is
      ∙ ap (λ (o : Option Sink). option_map pin_of o) (slice_get-get_or i.sinks s d within)

  at_pair : (node : TreeNode) (l r : ℕ) (buffer : Option ℕ) → node.kind ≡ Pair l r buffer → leaf_pin i node ≡ None
  at_pair node l r buffer is =
      ap (λ (kind : NodeKind). option_map pin_of (option_and_then (slice_get i.sinks) (leaf_sink kind))) is

  pub sink_load_is : (node : TreeNode) (id s : ℕ) → node.kind ≡ Leaf id s → (d : Sink) → s < length i.sinks
      → sink_load i node ≡ (get_or i.sinks s d).cap
  sink_load_is node id s is d within =
      ap (λ (kind : NodeKind). option_map_or (λ (sink : Sink). sink.cap) (option_and_then (slice_get i.sinks) (leaf_sink kind)) 0) is
      ∙ ap (λ (o : Option Sink). option_map_or (λ (sink : Sink). sink.cap) o 0) (slice_get-get_or i.sinks s d within)

  pub sink_offset_is : (node : TreeNode) (id s : ℕ) → node.kind ≡ Leaf id s → (d : Sink) → s < length i.sinks
      → sink_offset i node ≡ (get_or i.sinks s d).offset
  sink_offset_is node id s is d within =
      ap (λ (kind : NodeKind). option_map_or (λ (sink : Sink). sink.offset) (option_and_then (slice_get i.sinks) (leaf_sink kind)) 0) is
      ∙ ap (λ (o : Option Sink). option_map_or (λ (sink : Sink). sink.offset) o 0) (slice_get-get_or i.sinks s d within)

  pub sink_pin_is : (node : TreeNode) (id s : ℕ) → node.kind ≡ Leaf id s → (d : Sink) → s < length i.sinks
      → sink_pin node ≡ pin_of (get_or i.sinks s d)
  sink_pin_is node id s is d within =
      let pin : ℕ → ℕ → Pin = λ cap offset. record { cap = cap; offset = offset } in
      ap₂ pin (sink_load_is node id s is d within) (sink_offset_is node id s is d within)

  module _ (nodes : List TreeNode) (k : ℕ) (e : TreeNode) (h : k < length nodes) where
    abbrev here : TreeNode
    here = get_or nodes k e

    -- those of a front, one node further
    more : leaf_pins i (take (k + 1) nodes) ≡ leaf_pins i (take k nodes) ++ cons_option (leaf_pin i here) []
    more =
        ap (leaf_pins i) (take_more nodes k e h) ∙ filter_map-append (leaf_pin i) (take k nodes) (here ∷ [])

    module _ (pins : List Pin) (are : pins ≡ leaf_pins i (take k nodes)) where
      pub listed_leaf : (id s : ℕ) → here.kind ≡ Leaf id s → (d : Sink) → s < length i.sinks
          → pins ++ pin_of (get_or i.sinks s d) ∷ [] ≡ leaf_pins i (take (k + 1) nodes)
      listed_leaf id s is d within =
          ap (λ xs. xs ++ pin_of (get_or i.sinks s d) ∷ []) are
          ∙ ap (λ o. leaf_pins i (take k nodes) ++ cons_option o []) (sym (at_leaf here id s is d within)) ∙ sym more

      pub listed_pair : (l r : ℕ) (buffer : Option ℕ) → here.kind ≡ Pair l r buffer → pins ≡ leaf_pins i (take (k + 1) nodes)
      listed_pair l r buffer is =
          are ∙ sym (append-nil (leaf_pins i (take k nodes)))
          ∙ ap (λ o. leaf_pins i (take k nodes) ++ cons_option o []) (sym (at_pair here l r buffer is)) ∙ sym more

    -- those that are left, one node less
    less : leaf_pins i (drop k nodes) ≡ cons_option (leaf_pin i here) (leaf_pins i (drop (k + 1) nodes))
    less =
        let next : k + 1 ≡ suc k = omega arith in
        ap (leaf_pins i) (drop-cons nodes k e h)
        ∙ ap (λ n. cons_option (leaf_pin i here) (leaf_pins i (drop n nodes))) (sym next)

    module _ (pins : List Pin) (are : pins ≡ leaf_pins i (drop k nodes)) where
      pub taken_leaf : (id s : ℕ) → here.kind ≡ Leaf id s → s < length i.sinks
          → pins ≡ sink_pin here ∷ leaf_pins i (drop (k + 1) nodes)
      taken_leaf id s is within =
          let d : Sink = record { id = 0; x = pos 0; y = pos 0; cap = 0; offset = 0 } in
          are ∙ less ∙ ap (λ o. cons_option o (leaf_pins i (drop (k + 1) nodes)))
          (at_leaf here id s is d within ∙ ap Some (sym (sink_pin_is here id s is d within)))

      pub taken_pair : (l r : ℕ) (buffer : Option ℕ) → here.kind ≡ Pair l r buffer → pins ≡ leaf_pins i (drop (k + 1) nodes)
      taken_pair l r buffer is =
          are ∙ less ∙ ap (λ o. cons_option o (leaf_pins i (drop (k + 1) nodes))) (at_pair here l r buffer is)
