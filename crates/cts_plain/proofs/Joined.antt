-- The tree at a number, from what is told of its parts.
use Rattle.std.proofs.Common.{◌≡◌, ℕ, ◌+◌, ◌-◌, ◌<◌, ◌≤◌, List, [], ◌∷◌, length, map, get_or, slice_get, Option, Some, None, MatchOption, refl, sym, ap, subst, ◌∙◌, arith}
use Rattle.std.proofs.lemmas.Option.{slice_get-get_or}
use Rattle.cts_units.specs.declared.params.Sink.{Sink}
use Rattle.cts_postorder.specs.BinaryTree.{BinaryTree, tip, fork, label, size}
use Rattle.cts_postorder.specs.PostOrder.{IsPostOrder, trees_of}
use Rattle.cts_postorder.specs.Occurrence.{Occurrence, occurrence, occurrences_of}
use Rattle.cts_postorder.proofs.Failures.{size-tree}
use Rattle.cts_postorder.proofs.Lists.{IsPair, is_pair, trees_of-here}
use Rattle.cts_postorder.proofs.Upward.{leaf_here}
use Rattle.cts_topo.specs.declared.shape.ShapeNode.{ShapeNode}
use Rattle.cts_topo.specs.declared.shape.ShapeNode.TheVariants.{Leaf, Pair}
use Rattle.cts_topo.specs.Shape.{children}
use Rattle.cts_topo.proofs.Counts.{leaf_within, length-shape}
use Rattle.cts_geom.specs.declared.points.Spot.{Spot}
use Rattle.cts_up.specs.declared.site.Site.{Site}
use Rattle.cts_tree.specs.declared.nodes.NodeKind.{NodeKind}
use Rattle.cts_tree.specs.declared.nodes.NodeKind.TheVariants as kinds
use Rattle.cts_tree.specs.declared.nodes.TreeNode.{TreeNode}
use Rattle.cts_tree.specs.Nodes.{buffer_of}
use Rattle.cts_instance.specs.declared.parts.Parts.{Parts}
use Rattle.cts_instance.specs.Validity.{IsValid}
use Rattle.cts_embed.specs.declared.node.NodeBalance.{NodeBalance}
use Rattle.cts_embed.specs.Balance.{IsBalance, IsLeafBalance, IsPairBalance, sink_of}
use Rattle.cts_embed.specs.Places.{kind_of}
use Rattle.cts_embed.specs.PlacedTree.{IsPlacedNode}
use Rattle.cts_embed.specs.Range.{IsInRange}
use Rattle.cts_embed.proofs.NodeKinds.{LeafKind, leaf_kind, pair_kind}
use Rattle.cts_embed.proofs.PlacedFits.{names_of}
use Rattle.cts_embed.proofs.Pins.{sinks_small}
use Rattle.cts_embed.proofs.Range.{in_range}
use Rattle.cts_embed.proofs.Steps.{pair_names}
use Rattle.cts_embed.specs.Stretches.{IsPlacedAt, IsReady, IsStretch}
use Rattle.cts_embed.proofs.Stretches.{label_here, left_ready, right_ready}
use Rattle.cts_plain.specs.declared.below.Below.{Below}
use Rattle.cts_plain.specs.Below.{IsBelow, IsLeafBelow, IsPlacedBelow}

-- the node of the shape for which a placed leaf or pair stands
leaf_of : (sinks : List Sink) (n : ShapeNode) (buffer : Option ℕ) (id s : ℕ) → kind_of sinks n buffer ≡ Some (kinds.Leaf id s) → n ≡ Leaf s
leaf_of sinks (Leaf x) buffer id s is =
    let same : kinds.Leaf id s ≡ kinds.Leaf (leaf_kind sinks x buffer (kinds.Leaf id s) is).sink.id x =
    (leaf_kind sinks x buffer (kinds.Leaf id s) is).is in
    cc
leaf_of sinks (Pair l r) buffer id s is =
    let other : kinds.Leaf id s ≡ kinds.Pair l r buffer = pair_kind sinks l r buffer (kinds.Leaf id s) is in cc

pair_of : (sinks : List Sink) (n : ShapeNode) (chosen buffer : Option ℕ) (l r : ℕ) → kind_of sinks n chosen ≡ Some (kinds.Pair l r buffer)
    → n ≡ Pair l r
pair_of sinks (Leaf x) chosen buffer l r is =
    let other : kinds.Pair l r buffer ≡ kinds.Leaf (leaf_kind sinks x chosen (kinds.Pair l r buffer) is).sink.id x =
    (leaf_kind sinks x chosen (kinds.Pair l r buffer) is).is in
    cc
pair_of sinks (Pair a b) chosen buffer l r is =
    let same : kinds.Pair l r buffer ≡ kinds.Pair a b chosen = pair_kind sinks a b chosen (kinds.Pair l r buffer) is in cc

-- what the balance makes of the leaf of a sink that is read of the list
pub leaf_at : (sinks lent : List Sink) → lent ≡ sinks → (place : ℕ) → place < length sinks → (d : Sink) (b : NodeBalance)
    → IsLeafBalance (get_or lent place d) b → IsLeafBelow sinks place b
leaf_at sinks lent same place within d b balance =
    let found : slice_get sinks place ≡ Some (get_or lent place d) =
    slice_get-get_or sinks place d within ∙ ap Some (ap (λ (xs : List Sink). get_or xs place d) (sym same)) in
    subst (λ o. MatchOption o ⊥ (λ sink. IsLeafBalance sink b)) (sym found) balance

-- a placed tree has as many nodes as the tree for which it stands
pub placed_size : (parts : Parts) (up : List (BinaryTree ShapeNode)) (t : BinaryTree ShapeNode) (placed : BinaryTree TreeNode)
    → IsPlacedBelow parts up t placed → size placed ≡ size t
unfolding IsPlacedBelow size
placed_size parts up (tip n) (tip m) is = refl
placed_size parts up (tip n) (fork l' r' m) is = absurd is
placed_size parts up (fork l r n) (tip m) is = absurd is
placed_size parts up (fork l r n) (fork l' r' m) is =
    omega (arith, placed_size parts (fork l r n ∷ up) l l' is.0, placed_size parts (fork l r n ∷ up) r r' is.1)

-- a leaf that is placed
placed_tip : (parts : Parts) (q : Occurrence ShapeNode) (n : ShapeNode) (node : TreeNode) → q.here ≡ tip n → IsPlacedNode parts q node
    → IsPlacedBelow parts q.above q.here (tip node)
unfolding IsPlacedBelow
placed_tip parts q n node is placed =
    subst (λ t. IsPlacedBelow parts q.above t (tip node)) (sym is)
    (subst (λ t. IsPlacedNode parts (occurrence q.above t) node) is placed)

module _ (parts : Parts) (nodes : List ShapeNode) (sites : List Site) (number : ℕ) (from : Spot) (ready : IsReady parts nodes sites number from)
    (node : TreeNode) (placed : IsPlacedAt parts nodes number node) where
  ok : IsPostOrder (map children nodes)
  ok = ready.shape.post_order

  none : Occurrence ShapeNode
  none = occurrence [] (tip (Leaf 0))

  here : ShapeNode
  here = get_or nodes number (Leaf 0)

  kind_is : kind_of parts.sinks (get_or nodes number (Leaf 0)) (placed none).finished.buffer ≡ Some node.kind
  kind_is =
      subst (λ n. kind_of parts.sinks n (placed none).finished.buffer ≡ Some node.kind)
      (label_here parts nodes sites number from ready none (Leaf 0)) (placed none).placed.kind

  module _ (id s : ℕ) (is : node.kind ≡ kinds.Leaf id s) where
    leaf_there : get_or nodes number (Leaf 0) ≡ Leaf s
    leaf_there =
        leaf_of parts.sinks (get_or nodes number (Leaf 0)) (placed none).finished.buffer id s (kind_is ∙ ap Some is)

    pub sink_within : s < length parts.sinks
    sink_within = leaf_within (length parts.sinks) nodes ready.shape number (Leaf 0) s ready.within leaf_there

    leaf_tree : (o : Occurrence ShapeNode) → (get_or (occurrences_of children nodes) number o).here ≡ tip (get_or nodes number (Leaf 0))
    leaf_tree o =
        sym (trees_of-here children nodes ok number (tip (Leaf 0)) o ready.within)
        ∙ leaf_here children (λ (t : BinaryTree ShapeNode) (n : ShapeNode). Unit {0}) nodes number (Leaf 0) (tip (Leaf 0)) ready.within
        (ap children leaf_there)

    pub leaf_is_below : (b : NodeBalance) → IsLeafBelow parts.sinks s b
        → IsBelow parts nodes number (record { balance = b; route = node.route.length })
    unfolding IsBalance label
    leaf_is_below b balance = record {
      placed = tip node;
      is_placed = λ o. placed_tip parts (get_or (occurrences_of children nodes) number o) (get_or nodes number (Leaf 0)) node (leaf_tree o) (placed o);
      balanced = subst (λ k. MatchOption (sink_of parts.sinks k) ⊥ (λ sink. IsLeafBalance sink b)) (sym is) balance;
      route = refl;
    }

  module _ (l r : ℕ) (buffer : Option ℕ) (is : node.kind ≡ kinds.Pair l r buffer) where
    pair_there : get_or nodes number (Leaf 0) ≡ Pair l r
    pair_there =
        pair_of parts.sinks (get_or nodes number (Leaf 0)) (placed none).finished.buffer buffer l r (kind_is ∙ ap Some is)

    pair : IsPair children nodes number (l, r) (get_or nodes number (Leaf 0))
    pair = is_pair children nodes ok number (Leaf 0) (l, r) ready.within (ap children pair_there)

    pub left_before : l < number
    left_before = pair.left_below

    pub right_before : r < number
    right_before = pair.right_below

    first : ℕ
    first = number + 1 - size (get_or (trees_of children nodes) number (tip (Leaf 0)))

    stretch : IsStretch nodes first number
    unfolding first
    stretch d =
        omega (
          arith,
          ap size (pair.tree d),
          ap size (pair.tree (tip (Leaf 0))),
          size-tree children nodes ok number (tip (Leaf 0)) ready.within,
        )

    pub left_can : IsReady parts nodes sites l node.place
    left_can = left_ready parts nodes sites number from ready first l r (Leaf 0) pair_there stretch node placed

    pub right_can : IsReady parts nodes sites r node.place
    right_can = right_ready parts nodes sites number from ready first l r (Leaf 0) pair_there stretch node placed

    -- of a valid instance
    module _ (valid : IsValid parts) where
      few : length nodes ≤ 131071
      few = omega (arith, length-shape (length parts.sinks) nodes ready.shape, valid.sink_count)

      pub part_in_range : (k : ℕ) (b : Below) → k < number → IsBelow parts nodes k b → IsInRange b.balance
      part_in_range k b before below =
          let q : Occurrence ShapeNode = get_or (occurrences_of children nodes) k none in
          let inside : k < length nodes = omega (arith, before, ready.within) in
          let same : size below.placed ≡ size (get_or (trees_of children nodes) k (tip (Leaf 0))) =
          placed_size parts q.above q.here below.placed (below.is_placed none)
          ∙ ap size (sym (trees_of-here children nodes ok k (tip (Leaf 0)) none inside)) in
          in_range parts.params parts.sinks below.placed b.balance below.balanced valid.params (sinks_small parts valid)
          (omega (arith, same, size-tree children nodes ok k (tip (Leaf 0)) inside, before, ready.within, few))

    pub buffer_within : MatchOption buffer (Unit {0}) (λ index. index < length parts.params.library)
    buffer_within =
        let q : Occurrence ShapeNode = get_or (occurrences_of children nodes) number none in
        pair_names (length parts.sinks) (length parts.params.library) l r buffer node.kind is
        (names_of parts q.here (placed none).finished node.kind (placed none).made (placed none).placed.kind)

    pub pair_is_below : (a b : Below) → IsBelow parts nodes l a → IsBelow parts nodes r b → (p : NodeBalance)
        → IsPairBalance parts.params buffer a.balance a.route b.balance b.route p
        → IsBelow parts nodes number (record { balance = p; route = node.route.length })
    unfolding IsPlacedBelow IsBalance label
    pair_is_below a b left right p balance = record {
      placed = fork left.placed right.placed node;
      is_placed = λ o. subst (λ (q : Occurrence ShapeNode). IsPlacedBelow parts q.above q.here (fork left.placed right.placed node)) (sym (pair.own o)) (
        subst (λ (q : Occurrence ShapeNode). IsPlacedBelow parts q.above q.here left.placed) (pair.at_left o) (left.is_placed o),
        subst (λ (q : Occurrence ShapeNode). IsPlacedBelow parts q.above q.here right.placed) (pair.at_right o) (right.is_placed o),
        subst (λ (q : Occurrence ShapeNode). IsPlacedNode parts q node) (pair.own o) (placed o),
      );
      balanced = (
        a.balance,
        b.balance,
        left.balanced,
        right.balanced,
        subst (λ u. IsPairBalance parts.params u a.balance (label left.placed).route.length b.balance (label right.placed).route.length p)
            (sym (ap buffer_of is))
            (subst (λ x. IsPairBalance parts.params buffer a.balance x b.balance (label right.placed).route.length p) (sym left.route)
            (subst (λ x. IsPairBalance parts.params buffer a.balance a.route b.balance x p) (sym right.route) balance)),
      );
      route = refl;
    }
