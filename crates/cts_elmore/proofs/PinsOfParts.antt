-- The pins of the leaves of a stretch that is cut at its root: those of its left part, and then those of its right part.
use Rattle.std.proofs.Common.{◌≡◌, ℕ, ◌+◌, ◌-◌, ◌/◌, ◌<◌, ◌≤◌, List, [], ◌∷◌, ◌++◌, take, drop, length, get_or, slice_get, Option, Some, None, pos, refl, sym, ap, subst, ◌∙◌, arith, append-nil, length-append, take_at}
use Rattle.std.specs.Prelude.{IfSome}
use Rattle.std.specs.List.{All, cons_option}
use Rattle.std.specs.Option.{option_map, option_and_then}
use Rattle.std.proofs.lemmas.List.{drop_at}
use Rattle.std.proofs.lemmas.List.Elements.{filter_map-append}
use Rattle.std.proofs.lemmas.Option.{slice_get-get_or}
use Rattle.cts_list.proofs.AllOf.{all_front, all_back}
use Rattle.cts_units.specs.declared.params.Sink.{Sink}
use Rattle.cts_postorder.specs.BinaryTree.{BinaryTree, tip, fork, labels, size, IsNumbered}
use Rattle.cts_postorder.specs.Cut.{IsCut}
use Rattle.cts_postorder.proofs.Cut.{front_size, of_front}
use Rattle.cts_postorder.proofs.Sizes.{length-labels}
use Rattle.cts_tree.specs.declared.nodes.NodeKind.{NodeKind}
use Rattle.cts_tree.specs.declared.nodes.NodeKind.TheVariants.{Leaf, Pair}
use Rattle.cts_tree.specs.declared.nodes.TreeNode.{TreeNode}
use Rattle.cts_tree.specs.Nodes.{children_of_from, children_from, leaf_sink}
use Rattle.cts_instance.specs.declared.parts.Parts.{Parts}
use Rattle.cts_elmore.specs.declared.pin_list.Pin.{Pin}
use Rattle.cts_elmore.specs.Loads.{pin_of, leaf_pin, leaf_pins}

module _ (i : Parts) where
  -- a leaf is that of a sink of the instance
  abbrev pub HasSink : NodeKind → Type 0
  HasSink kind = IfSome (leaf_sink kind) (λ sink. sink < length i.sinks)

  abbrev NodeHasSink : TreeNode → Type 0
  NodeHasSink node = HasSink node.kind

  -- the pin of a kind of node
  abbrev kind_pin : NodeKind → Option Pin
  kind_pin kind = option_map pin_of (option_and_then (slice_get i.sinks) (leaf_sink kind))

  -- a pair has none, a leaf one
  no_pin : (first : ℕ) (kind : NodeKind) (c : ℕ × ℕ) → children_of_from first kind ≡ Some c → kind_pin kind ≡ None
  no_pin first (Leaf id sink) c pair = let none : Option (ℕ × ℕ) = None in let clash : none ≡ Some c = pair in cc
  no_pin first (Pair left right buffer) c pair = refl

  one_pin : (first : ℕ) (kind : NodeKind) → children_of_from first kind ≡ None → HasSink kind → (pin : Pin) × (kind_pin kind ≡ Some pin)
  one_pin first (Leaf id sink) none within =
      let d : Sink = record { id = 0; x = pos 0; y = pos 0; cap = 0; offset = 0 } in
      (pin_of (get_or i.sinks sink d), ap (option_map pin_of) (slice_get-get_or i.sinks sink d within))
  one_pin first (Pair left right buffer) none within =
      let pair : Option (ℕ × ℕ) = Some (left - first, right - first) in
      let clash : pair ≡ None = none in cc

  module _ (first : ℕ) where
    -- those of a pair's parts are all that it has
    pins_of_pair : (ls rs : List TreeNode) (node : TreeNode) (c : ℕ × ℕ) → children_from first node ≡ Some c
        → leaf_pins i (ls ++ rs ++ node ∷ []) ≡ leaf_pins i ls ++ leaf_pins i rs
    pins_of_pair ls rs node c pair =
        filter_map-append (leaf_pin i) (ls ++ rs) (node ∷ [])
        ∙ ap (λ o. leaf_pins i (ls ++ rs) ++ cons_option o []) (no_pin first node.kind c pair)
        ∙ append-nil (leaf_pins i (ls ++ rs)) ∙ filter_map-append (leaf_pin i) ls rs

    -- a tree has one pin more than pairs
    pins_of_tree : (t : BinaryTree TreeNode) (offset : ℕ) → IsNumbered (children_from first) offset t → All NodeHasSink (labels t)
        → length (leaf_pins i (labels t)) + length (leaf_pins i (labels t)) ≡ size t + 1
    unfolding labels size IsNumbered
    pins_of_tree (tip n) offset numbered names =
        let pin = one_pin first n.kind numbered (names 0 n (omega arith)) in
        let is : leaf_pins i (n ∷ []) ≡ pin.0 ∷ [] = ap (λ o. cons_option o []) (pin.1) in
        ap (λ (pins : List Pin). length pins + length pins) is
    pins_of_tree (fork l r n) offset numbered names =
        let below : All NodeHasSink (labels l ++ labels r) = all_front NodeHasSink (labels l ++ labels r) (n ∷ []) names in
        let count : length (leaf_pins i (labels l ++ labels r ++ n ∷ []))
        ≡ length (leaf_pins i (labels l)) + length (leaf_pins i (labels r)) =
        ap length (pins_of_pair (labels l) (labels r) n _ (numbered.2)) ∙ length-append (leaf_pins i (labels l)) (leaf_pins i (labels r)) in
        omega (
          arith,
          count,
          pins_of_tree l offset (numbered.0) (all_front NodeHasSink (labels l) (labels r) below),
          pins_of_tree r (offset + size l) (numbered.1) (all_back NodeHasSink (labels l) (labels r) below),
        )

    module _ {back_kids : TreeNode → Option (ℕ × ℕ)} {nodes front back : List TreeNode} {node : TreeNode}
        (c : IsCut (children_from first) back_kids nodes front back node) (named : All NodeHasSink nodes)
        (pins : List Pin) (are : pins ≡ leaf_pins i nodes) (count : ℕ) (count_is : count ≡ length front / 2 + 1) where
      both : pins ≡ leaf_pins i front ++ leaf_pins i back
      unfolding IsNumbered
      both = are ∙ ap (leaf_pins i) c.nodes_are ∙ pins_of_pair front back node _ (c.numbered.2)

      long : length (leaf_pins i front) ≡ count
      unfolding IsNumbered
      long =
          let twice = pins_of_tree c.left 0 (c.numbered.0) (subst (All NodeHasSink) c.front_is (of_front c NodeHasSink named)) in
          omega (arith, count_is, twice, front_size c, ap (λ ns. length (leaf_pins i ns)) c.front_is)

      pub count_within : count ≤ length pins
      count_within = omega (arith, long, ap length both, length-append (leaf_pins i front) (leaf_pins i back))

      pub front_pins : take count pins ≡ leaf_pins i front
      front_pins = ap (take count) both ∙ take_at (leaf_pins i front) (leaf_pins i back) count long

      pub back_pins : drop count pins ≡ leaf_pins i back
      back_pins = ap (drop count) both ∙ drop_at (leaf_pins i front) (leaf_pins i back) count long
