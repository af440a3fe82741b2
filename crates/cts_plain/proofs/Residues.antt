-- How large the residues of a synthesised tree are at most: a pair's two wires are the least pair of the balance, so its residue
-- is small; and the sum of the residues above a leaf, and with it the skew, grows with the height at most.
use Rattle.std.proofs.Common.{◌≡◌, ℕ, ◌+◌, ◌*◌, ◌≤◌, max, pos, inl, inr, List, [], ◌∷◌, ◌++◌, map, Some, refl, sym, ap, ap₂, subst, ◌∙◌, arith}
use Rattle.std.specs.Int.{abs_diff}
use Rattle.std.specs.List.{All}
use Rattle.std.proofs.Math.Nat.{mul-le-mul}
use Rattle.std.proofs.lemmas.Int.{ints}
use Rattle.std.proofs.lemmas.List.Elements.{All-append, All-cons, All-head, All-nil}
use Rattle.cts_list.proofs.AllOf.{all_front, all_back}
use Rattle.cts_geom.specs.declared.regions.Region.{Region}
use Rattle.cts_units.specs.declared.params.Wire.{Wire}
use Rattle.cts_units.specs.Delay.{wire_delay_of}
use Rattle.cts_units.specs.Limits.{IsWire}
use Rattle.cts_postorder.specs.BinaryTree.{BinaryTree, tip, fork, label, subtrees}
use Rattle.cts_postorder.specs.Occurrence.{occurrence}
use Rattle.cts_postorder.specs.PostOrder.{IsPostOrder, root_of, trees_of}
use Rattle.cts_postorder.proofs.Alike.{IsAlike, AlikeLists, alike_label}
use Rattle.cts_tree.specs.declared.nodes.TreeNode.{TreeNode}
use Rattle.cts_tree.specs.Nodes.{tree_children, children_of, buffer_of}
use Rattle.cts_instance.specs.declared.parts.Parts.{Parts}
use Rattle.cts_merge.specs.declared.side.Side.{Side}
use Rattle.cts_merge.proofs.ResidueBounds.{balance_residue}
use Rattle.cts_embed.specs.declared.node.NodeBalance.{NodeBalance}
use Rattle.cts_embed.specs.Balance.{IsBalance, IsPairBalance, delay_through}
use Rattle.cts_embed.specs.BalancedTree.{IsBalancedNode, IsWireLength}
use Rattle.cts_embed.proofs.Unique.{wire_one}
use Rattle.cts_elmore.specs.Delays.{wire_delay}
use Rattle.cts_elmore.specs.Loads.{load_seen}
use Rattle.cts_elmore.specs.Skew.{greatest_below, residue, skew, bound}
use Rattle.cts_elmore.proofs.Below.{bound_at_pair, bound_at_tip, skew_within}
use Rattle.cts_plain.specs.Residues.{HasSmallResidue, HasWiresWithin, ResiduesAreSmall, SkewIsSmall, height, step_of}
use Rattle.cts_plain.proofs.Sound.{placed_ok}
use Rattle.cts_plain.proofs.WithinLimits.{Agrees, agrees, lists}

module _ (i : Parts) (w : IsWire i.params.wire) where
  -- what the balance makes of a node, as a side of a merge
  side_of : NodeBalance → Side
  side_of b = record { greatest = b.greatest; load = b.load; region = record { u1 = pos 0; u2 = pos 0; v1 = pos 0; v2 = pos 0; u_ordered = omega (arith, ints); v_ordered = omega (arith, ints) } }

  through : (t : BinaryTree TreeNode) (b : NodeBalance) (len : ℕ) → Agrees i b t → (label t).wire ≡ len
      → greatest_below i t + wire_delay i t ≡ delay_through i.params.wire b len
  through t b len at wire =
      ap₂ (λ x y. x + y) at.greatest
      (ap₂ (λ l c. wire_delay_of i.params.wire.r i.params.wire.c l c) wire at.load)

  small_at : (l r : BinaryTree TreeNode) (m : TreeNode) (buffer : _) (la lb : ℕ) (a b p : NodeBalance)
      → IsPairBalance i.params buffer a la b lb p → Agrees i a l → Agrees i b r → (label l).wire ≡ p.left_wire
      → (label r).wire ≡ p.right_wire → HasSmallResidue i (fork l r m)
  unfolding HasSmallResidue residue side_of
  small_at l r m buffer la lb a b p pair left right left_wire right_wire =
      let law = balance_residue i.params.wire (side_of a) (side_of b) la lb p.left_wire p.right_wire pair.wires w in
      let same : abs_diff (greatest_below i l + wire_delay i l) (greatest_below i r + wire_delay i r)
      ≡ abs_diff (delay_through i.params.wire a p.left_wire) (delay_through i.params.wire b p.right_wire) =
      ap₂ abs_diff (through l a p.left_wire left left_wire) (through r b p.right_wire right right_wire) in
      let step : step_of i.params.wire (max (label l).wire (label r).wire) (max (load_seen i l) (load_seen i r))
      ≡ step_of i.params.wire (max p.left_wire p.right_wire) (max a.load b.load) =
      ap₂ (step_of i.params.wire) (ap₂ max left_wire right_wire) (ap₂ max left.load right.load) in
      omega (arith, law, same, step)

  all_small : (up : List (BinaryTree TreeNode)) (q t : BinaryTree TreeNode) (p : NodeBalance)
      → IsAlike (IsBalancedNode i) up q t → IsBalance i.params i.sinks q p → All (HasSmallResidue i) (subtrees t)
  unfolding IsAlike IsBalance IsWireLength label subtrees HasSmallResidue
  all_small up (tip n) (tip m) p a h = All-cons (HasSmallResidue i) (tip m) [] tt (All-nil (HasSmallResidue i))
  all_small up (tip n) (fork l' r' m) p a h = absurd a
  all_small up (fork l r n) (tip m) p a h = absurd a
  all_small up (fork l r n) (fork l' r' m) p a h =
      let P = HasSmallResidue i in
      let top : BinaryTree TreeNode = fork l r n in
      let at_left : IsBalancedNode i (occurrence (top ∷ up) l) (label l') = alike_label (IsBalancedNode i) (top ∷ up) l l' (a.0) in
      let at_right : IsBalancedNode i (occurrence (top ∷ up) r) (label r') = alike_label (IsBalancedNode i) (top ∷ up) r r' (a.1) in
      let here : HasSmallResidue i (fork l' r' m) =
      small_at l' r' m (buffer_of n.kind) (label l).route.length (label r).route.length (h.0) (h.1) p (h.4)
      (agrees i (top ∷ up) l l' (h.0) (a.0) (h.2)) (agrees i (top ∷ up) r r' (h.1) (a.1) (h.3))
      (wire_one i (top ∷ up) l (label l').wire p.left_wire at_left.wire (p, h, inl (refl, refl)))
      (wire_one i (top ∷ up) r (label r').wire p.right_wire at_right.wire (p, h, inr (refl, refl))) in
      All-append P (subtrees l' ++ subtrees r') (fork l' r' m ∷ [])
      (All-append P (subtrees l') (subtrees r') (all_small (top ∷ up) l l' (h.0) (a.0) (h.2)) (all_small (top ∷ up) r r' (h.1) (a.1) (h.3)))
      (All-cons P (fork l' r' m) [] here (All-nil P))

pub residues_small : ResiduesAreSmall
residues_small i shape tree valid over is =
    let ok = placed_ok i shape tree valid over is in
    let l = lists i is.placed ok tree is.is_balanced in
    let within = is.is_balanced.within in
    let names : Some l.first ≡ Some within.root = sym l.first_is ∙ within.whole.whole in
    let same : l.first ≡ within.root = cc in
    subst (All (HasSmallResidue i)) (sym l.second_trees)
    (all_small i valid.params.wire [] within.root l.second within.balance
    (subst (λ t. IsAlike (IsBalancedNode i) [] t l.second) same l.alike) within.whole.balanced)

-- a step is the greater, the longer the wire and the greater the load
step_grows : (wire : Wire) (len longest load most : ℕ) → len ≤ longest → load ≤ most → step_of wire len load ≤ step_of wire longest most
step_grows wire len longest load most longer greater =
    let odd : 2 * len + 1 ≤ 2 * longest + 1 = omega (arith, longer) in
    let own : wire.c * (2 * len + 1) ≤ wire.c * (2 * longest + 1) = mul-le-mul (omega arith) odd in
    let inner : wire.c * (2 * len + 1) + 2 * load ≤ wire.c * (2 * longest + 1) + 2 * most = omega (arith, own, greater) in
    mul-le-mul (omega arith) inner

-- one step more for each level
more_levels : (a b h k step : ℕ) → 2 * a ≤ h * step → 2 * b ≤ k * step → 2 * max a b ≤ max h k * step
more_levels a b h k step low high =
    let left : h * step ≤ max h k * step = mul-le-mul (omega arith) (omega arith) in
    let right : k * step ≤ max h k * step = mul-le-mul (omega arith) (omega arith) in
    omega (arith, low, high, left, right)

module _ (i : Parts) (longest load : ℕ) where
  bound_small : (t : BinaryTree TreeNode) → All (HasSmallResidue i) (subtrees t) → HasWiresWithin i longest load t
      → 2 * bound i t ≤ height t * step_of i.params.wire longest load
  unfolding HasSmallResidue HasWiresWithin subtrees height
  bound_small (tip n) small within = omega (arith, bound_at_tip i n)
  bound_small (fork l r n) small within =
      let P = HasSmallResidue i in
      let step : ℕ = step_of i.params.wire longest load in
      let parts : All P (subtrees l ++ subtrees r) = all_front P (subtrees l ++ subtrees r) (fork l r n ∷ []) small in
      let here : P (fork l r n) =
      All-head P (fork l r n) [] (all_back P (subtrees l ++ subtrees r) (fork l r n ∷ []) small) in
      let left : 2 * bound i l ≤ height l * step = bound_small l (all_front P (subtrees l) (subtrees r) parts) (within.4) in
      let right : 2 * bound i r ≤ height r * step = bound_small r (all_back P (subtrees l) (subtrees r) parts) (within.5) in
      let both : 2 * max (bound i l) (bound i r) ≤ max (height l) (height r) * step =
      more_levels (bound i l) (bound i r) (height l) (height r) step left right in
      let one : step_of i.params.wire (max (label l).wire (label r).wire) (max (load_seen i l) (load_seen i r)) ≤ step =
      step_grows i.params.wire (max (label l).wire (label r).wire) longest (max (load_seen i l) (load_seen i r)) load
      (omega (arith, within.0, within.2)) (omega (arith, within.1, within.3)) in
      let more : (max (height l) (height r) + 1) * step ≡ max (height l) (height r) * step + step = omega arith in
      omega (arith, bound_at_pair i l r n, both, here, one, more)

pub skew_small : SkewIsSmall
skew_small i shape tree root longest load valid over is root_is within =
    let ok = placed_ok i shape tree valid over is in
    let l = lists i is.placed ok tree is.is_balanced in
    let names : Some l.second ≡ Some root = sym l.second_is ∙ root_is in
    let same : l.second ≡ root = cc in
    let small : All (HasSmallResidue i) (subtrees root) =
    subst (λ t. All (HasSmallResidue i) (subtrees t)) same
    (subst (All (HasSmallResidue i)) l.second_trees (residues_small i shape tree valid over is)) in
    omega (arith, skew_within i root, bound_small i longest load root small within)
