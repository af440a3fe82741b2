-- A balanced tree is within the limits: what the balance made of each node are the load, the greatest and the least arrival, and
-- the wires of the tree there.
use Rattle.std.proofs.Common.{◌≡◌, ℕ, ◌+◌, ◌*◌, max, min, inl, inr, List, [], ◌∷◌, ◌++◌, map, slice_get, Option, Some, None, MatchOption, add_comm, refl, sym, ap, ap₂, subst, ◌∙◌, arith}
use Rattle.std.specs.Prelude.{sum_by}
use Rattle.std.specs.List.{All}
use Rattle.std.specs.Option.{option_map_or}
use Rattle.std.proofs.lemmas.List.Elements.{All-append, All-cons, All-nil, All-weaker}
use Rattle.std.proofs.lemmas.List.Sums.{sum_by-cons, sum_by-append, sum_by_push}
use Rattle.cts_units.specs.declared.params.Sink.{Sink}
use Rattle.cts_units.specs.Choice.{added_delay_of, seen_load_of}
use Rattle.cts_units.specs.Delay.{wire_delay_of}
use Rattle.cts_postorder.specs.BinaryTree.{BinaryTree, tip, fork, label, labels, subtrees}
use Rattle.cts_postorder.specs.Occurrence.{occurrence}
use Rattle.cts_postorder.specs.PostOrder.{IsPostOrder, root_of}
use Rattle.cts_postorder.proofs.Alike.{IsAlike, AlikeLists, alike_lists, alike_label}
use Rattle.cts_tree.specs.declared.nodes.NodeKind.{NodeKind}
use Rattle.cts_tree.specs.declared.nodes.NodeKind.TheVariants.{Leaf, Pair}
use Rattle.cts_tree.specs.declared.nodes.TreeNode.{TreeNode}
use Rattle.cts_tree.specs.Nodes.{tree_children, children_of, buffer_of}
use Rattle.cts_instance.specs.declared.parts.Parts.{Parts}
use Rattle.cts_embed.specs.declared.node.NodeBalance.{NodeBalance}
use Rattle.cts_embed.specs.Balance.{IsBalance, IsLeafBalance, IsPairBalance, IsRootWithin, sink_of, delay_through, least_through}
use Rattle.cts_embed.specs.Balance.{load_below as balanced_load}
use Rattle.cts_embed.specs.BalancedTree.{IsBalancedNode, IsBalancedTree, IsWireLength}
use Rattle.cts_embed.proofs.Unique.{wire_one}
use Rattle.cts_elmore.specs.Loads.{load_below, load_seen, sink_load, sink_offset, source_load}
use Rattle.cts_elmore.specs.Delays.{wire_delay, source_delay, buffer_delay}
use Rattle.cts_elmore.specs.Skew.{greatest_below, least_below}
use Rattle.cts_elmore.specs.Limits.{long_left, long_right, great_load, great_delay, IsPairOver, IsRootOver, long_root, great_source_load, great_leaf_delay, IsOver, IsWithinLimits}
use Rattle.cts_elmore.proofs.Paths.{load_at_pair}
use Rattle.cts_elmore.proofs.Below.{greatest_at_tip, greatest_at_pair, least_at_tip, least_at_pair}
use Rattle.cts_elmore.proofs.Rising.{seen_at_pair, added_at_pair}

module _ (i : Parts) where
  -- the load, the arrivals and the wires of a tree are what the balance made of it, and no pair of it is over the limits
  pub record Agrees (b : NodeBalance) (t : BinaryTree TreeNode) : Type 0 where
    pub load : load_seen i t ≡ b.load
    pub greatest : greatest_below i t ≡ b.greatest
    pub least : least_below i t ≡ b.least
    pub wires : sum_by (λ (n : TreeNode). n.wire) (labels t) ≡ b.wires + (label t).wire
    pub within : All (λ s. ¬ IsPairOver i s) (subtrees t)

  -- what the balance made of a leaf, by its capacitance and its offset
  record AgreesAtLeaf (b : NodeBalance) (cap offset : ℕ) : Type 0 where
    load : cap ≡ b.load
    greatest : 2 * offset ≡ b.greatest
    least : 2 * offset ≡ b.least
    wires : b.wires ≡ 0

  sink_agrees : (o : Option Sink) (b : NodeBalance) → MatchOption o ⊥ (λ sink. IsLeafBalance sink b)
      → AgreesAtLeaf b (option_map_or (λ (s : Sink). s.cap) o 0) (option_map_or (λ (s : Sink). s.offset) o 0)
  sink_agrees None b h = absurd h
  sink_agrees (Some sink) b h = record { load = sym h.load; greatest = sym h.greatest; least = sym h.least; wires = h.total }

  kind_agrees : (k : NodeKind) (m : TreeNode) (b : NodeBalance) → m.kind ≡ k
      → MatchOption (sink_of i.sinks k) ⊥ (λ sink. IsLeafBalance sink b) → AgreesAtLeaf b (sink_load i m) (sink_offset i m)
  kind_agrees (Pair left right buffer) m b is h = absurd h
  kind_agrees (Leaf id sink) m b is h =
      let at : AgreesAtLeaf b (sink_load i (record m { kind = Leaf id sink })) (sink_offset i (record m { kind = Leaf id sink })) =
      sink_agrees (slice_get i.sinks sink) b h in
      record {
        load = ap (λ k. sink_load i (record m { kind = k })) is ∙ at.load;
        greatest = ap (λ k. 2 * sink_offset i (record m { kind = k })) is ∙ at.greatest;
        least = ap (λ k. 2 * sink_offset i (record m { kind = k })) is ∙ at.least;
        wires = at.wires;
      }

  leaf_agrees : (n : TreeNode) (m : TreeNode) (b : NodeBalance) → m.kind ≡ n.kind
      → MatchOption (sink_of i.sinks n.kind) ⊥ (λ sink. IsLeafBalance sink b) → Agrees b (tip m)
  unfolding load_below subtrees labels label
  leaf_agrees n m b is h =
      let at : AgreesAtLeaf b (sink_load i m) (sink_offset i m) = kind_agrees n.kind m b is h in
      record {
        load = at.load;
        greatest = greatest_at_tip i m ∙ at.greatest;
        least = least_at_tip i m ∙ at.least;
        wires = sum_by-cons (λ (n : TreeNode). n.wire) m [] ∙ omega (arith, at.wires);
        within = All-cons (λ s. ¬ IsPairOver i s) (tip m) [] (λ x. x) (All-nil (λ s. ¬ IsPairOver i s));
      }

  -- of a pair, from what agrees at its two parts
  module _ (n : TreeNode) (m : TreeNode) (kind : m.kind ≡ n.kind) (l r : BinaryTree TreeNode) (la lb : ℕ)
      (a b p : NodeBalance) (pair : IsPairBalance i.params (buffer_of n.kind) a la b lb p)
      (left : Agrees a l) (right : Agrees b r) (left_wire : (label l).wire ≡ p.left_wire) (right_wire : (label r).wire ≡ p.right_wire) where
    whole : BinaryTree TreeNode
    whole = fork l r m

    load : ℕ
    load = balanced_load i.params.wire a b p.left_wire p.right_wire

    load_is : load ≡ load_below i (fork l r m)
    unfolding load
    load_is =
        omega (
          arith,
          load_at_pair i l r m,
          left.load,
          right.load,
          ap (λ w. i.params.wire.c * w) left_wire,
          ap (λ w. i.params.wire.c * w) right_wire,
        )

    through_left : greatest_below i l + wire_delay i l ≡ delay_through i.params.wire a p.left_wire
    through_left =
        ap₂ (λ x y. x + y) left.greatest
        (ap₂ (λ w c. wire_delay_of i.params.wire.r i.params.wire.c w c) left_wire left.load)

    through_right : greatest_below i r + wire_delay i r ≡ delay_through i.params.wire b p.right_wire
    through_right =
        ap₂ (λ x y. x + y) right.greatest
        (ap₂ (λ w c. wire_delay_of i.params.wire.r i.params.wire.c w c) right_wire right.load)

    added_is : added_delay_of i.params.library (buffer_of n.kind) load ≡ buffer_delay i (fork l r m)
    added_is =
        ap (λ k. added_delay_of i.params.library (buffer_of k) load) (sym kind) ∙ added_at_pair i l r m load load_is

    greatest_is : greatest_below i (fork l r m) ≡ p.greatest
    unfolding load
    greatest_is =
        greatest_at_pair i l r m
        ∙ ap₂ (λ x y. x + y) (ap₂ max through_left through_right) (sym added_is) ∙ sym pair.greatest

    least_left : least_below i l + wire_delay i l ≡ least_through i.params.wire a p.left_wire
    least_left =
        ap₂ (λ x y. x + y) left.least
        (ap₂ (λ w c. wire_delay_of i.params.wire.r i.params.wire.c w c) left_wire left.load)

    least_right : least_below i r + wire_delay i r ≡ least_through i.params.wire b p.right_wire
    least_right =
        ap₂ (λ x y. x + y) right.least
        (ap₂ (λ w c. wire_delay_of i.params.wire.r i.params.wire.c w c) right_wire right.load)

    least_is : least_below i (fork l r m) ≡ p.least
    unfolding load
    least_is =
        least_at_pair i l r m
        ∙ ap₂ (λ x y. x + y) (ap₂ min least_left least_right) (sym added_is) ∙ sym pair.least

    wires_are : sum_by (λ (n : TreeNode). n.wire) (labels (fork l r m)) ≡ p.wires + m.wire
    unfolding labels
    wires_are =
        let wire : TreeNode → ℕ = λ n. n.wire in
        let all : sum_by wire (labels l ++ labels r ++ m ∷ []) ≡ sum_by wire (labels l ++ labels r) + wire m =
        sum_by_push wire (labels l ++ labels r) m in
        let both : sum_by wire (labels l ++ labels r) ≡ sum_by wire (labels l) + sum_by wire (labels r) =
        sum_by-append wire (labels l) (labels r) in
        omega (arith, all, both, left.wires, right.wires, left_wire, right_wire, pair.total)

    not_over : ¬ IsPairOver i (fork l r m)
    unfolding load
    not_over (long_left long) = omega (arith, left_wire, pair.left_within)
    not_over (long_right long) = omega (arith, right_wire, pair.right_within)
    not_over (great_load great) = omega (arith, load_is, pair.load_within)
    not_over (great_delay great) = omega (arith, greatest_is, pair.greatest_within)

    pair_agrees : Agrees p (fork l r m)
    unfolding subtrees load label
    pair_agrees = record {
      load = sym (seen_at_pair i l r m load load_is)
          ∙ ap (λ k. seen_load_of i.params.library (buffer_of k) load) kind ∙ sym pair.load;
      greatest = greatest_is;
      least = least_is;
      wires = wires_are;
      within = All-append (λ s. ¬ IsPairOver i s) (subtrees l ++ subtrees r) (fork l r m ∷ [])
          (All-append (λ s. ¬ IsPairOver i s) (subtrees l) (subtrees r) left.within right.within)
          (All-cons (λ s. ¬ IsPairOver i s) (fork l r m) [] not_over (All-nil (λ s. ¬ IsPairOver i s)));
    }

  pub agrees : (up : List (BinaryTree TreeNode)) (q : BinaryTree TreeNode) (t : BinaryTree TreeNode) (p : NodeBalance)
      → IsAlike (IsBalancedNode i) up q t → IsBalance i.params i.sinks q p → Agrees p t
  unfolding IsAlike IsBalance IsWireLength label
  agrees up (tip n) (tip m) p a h = leaf_agrees n m p a.kind h
  agrees up (tip n) (fork l' r' m) p a h = absurd a
  agrees up (fork l r n) (tip m) p a h = absurd a
  agrees up (fork l r n) (fork l' r' m) p a h =
      let top : BinaryTree TreeNode = fork l r n in
      let at_left : IsBalancedNode i (occurrence (top ∷ up) l) (label l') = alike_label (IsBalancedNode i) (top ∷ up) l l' (a.0) in
      let at_right : IsBalancedNode i (occurrence (top ∷ up) r) (label r') = alike_label (IsBalancedNode i) (top ∷ up) r r' (a.1) in
      pair_agrees n m (a.2).kind l' r' (label l).route.length (label r).route.length (h.0) (h.1) p (h.4)
      (agrees (top ∷ up) l l' (h.0) (a.0) (h.2)) (agrees (top ∷ up) r r' (h.1) (a.1) (h.3))
      (wire_one i (top ∷ up) l (label l').wire p.left_wire at_left.wire (p, h, inl (refl, refl)))
      (wire_one i (top ∷ up) r (label r').wire p.right_wire at_right.wire (p, h, inr (refl, refl)))

  -- so the whole tree is within the limits, those of its root among them
  module _ (placed : List TreeNode) (ok : IsPostOrder (map tree_children placed)) (tree : List TreeNode)
      (balanced : IsBalancedTree i placed tree) where
    pub lists : AlikeLists (IsBalancedNode i) tree_children tree_children
        (λ o m is. ap children_of is.kind) placed tree
    lists =
        alike_lists (IsBalancedNode i) tree_children tree_children (λ o m is. ap children_of is.kind) placed ok tree balanced.nodes

    pub root_agrees : (first : BinaryTree TreeNode) (root : BinaryTree TreeNode) → root_of tree_children placed ≡ Some first
        → IsAlike (IsBalancedNode i) [] first root
        → Agrees balanced.within.balance root × ((label root).wire ≡ (label balanced.within.root).route.length)
    unfolding IsWireLength
    root_agrees first root first_is alike =
        let names : Some first ≡ Some balanced.within.root = sym first_is ∙ balanced.within.whole.whole in
        let same : first ≡ balanced.within.root = cc in
        let alike' : IsAlike (IsBalancedNode i) [] balanced.within.root root =
        subst (λ t. IsAlike (IsBalancedNode i) [] t root) same alike in (
          agrees [] balanced.within.root root balanced.within.balance alike' balanced.within.whole.balanced,
          (alike_label (IsBalancedNode i) [] balanced.within.root root alike').wire,
        )

    root_not_over : (root : BinaryTree TreeNode) → Agrees balanced.within.balance root
        → (label root).wire ≡ (label balanced.within.root).route.length → ¬ IsRootOver i root
    root_not_over root agree wire over =
        let limits : IsRootWithin i (label balanced.within.root).route.length balanced.within.balance = balanced.within.within in
        let load : source_load i root
        ≡ balanced.within.balance.load + i.params.wire.c * (label balanced.within.root).route.length =
        ap₂ (λ x y. x + y) agree.load (ap (λ w. i.params.wire.c * w) wire) in
        let driven : source_delay i root
        ≡ 2 * i.source_r * (balanced.within.balance.load + i.params.wire.c * (label balanced.within.root).route.length) =
        ap (λ x. 2 * i.source_r * x) load in
        let through : wire_delay i root + greatest_below i root
        ≡ delay_through i.params.wire balanced.within.balance (label balanced.within.root).route.length =
        add_comm _ _ ∙ ap₂ (λ x y. x + y) agree.greatest
        (ap₂ (λ w c. wire_delay_of i.params.wire.r i.params.wire.c w c) wire agree.load) in
        over_root limits load driven through over
      where
        over_root : (limits : IsRootWithin i (label balanced.within.root).route.length balanced.within.balance)
            → source_load i root
            ≡ balanced.within.balance.load + i.params.wire.c * (label balanced.within.root).route.length
            → source_delay i root
            ≡ 2 * i.source_r * (balanced.within.balance.load + i.params.wire.c * (label balanced.within.root).route.length)
            → wire_delay i root + greatest_below i root
            ≡ delay_through i.params.wire balanced.within.balance (label balanced.within.root).route.length
            → ¬ IsRootOver i root
        over_root limits load driven through (long_root long) = omega (arith, wire, limits.wire)
        over_root limits load driven through (great_source_load great) = omega (arith, load, limits.load)
        over_root limits load driven through (great_leaf_delay great) = omega (arith, driven, through, limits.delay)

    pub within_limits : IsWithinLimits i tree
    within_limits =
        let l : AlikeLists (IsBalancedNode i) tree_children tree_children (λ o m is. ap children_of is.kind) placed tree = lists in
        let at : Agrees balanced.within.balance l.second × ((label l.second).wire ≡ (label balanced.within.root).route.length) =
        root_agrees l.first l.second l.first_is l.alike in
        subst (All (λ t. ¬ IsOver i tree t)) (sym l.second_trees)
        (All-weaker (λ t. ¬ IsPairOver i t) (λ t. ¬ IsOver i tree t)
        (λ t pair over. elim over [
          | inl below ↦ pair below
          | inr root ↦
              let names : Some t ≡ Some l.second = sym (root.0) ∙ l.second_is in
              let same : t ≡ l.second = cc in
              root_not_over l.second (at.0) (at.1) (subst (IsRootOver i) same (root.1))
        ]) (subtrees l.second) (at.0).within)
