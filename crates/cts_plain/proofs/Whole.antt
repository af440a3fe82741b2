-- The skew and the wire of a whole tree, from what is told of its root.
use Rattle.std.proofs.Common.{◌≡◌, ℕ, ◌+◌, ◌-◌, ◌≤◌, List, [], ◌∷◌, ◌++◌, length, map, get_or, Option, Some, refl, sym, ap, ap₂, subst, ◌∙◌, arith}
use Rattle.std.specs.Prelude.{sum_by}
use Rattle.std.specs.List.{AllZip}
use Rattle.cts_postorder.specs.BinaryTree.{BinaryTree, tip, fork, label, labels, size, root_number, IsNumbered}
use Rattle.cts_postorder.specs.PostOrder.{IsPostOrder, root_of}
use Rattle.cts_postorder.specs.Occurrence.{Occurrence, occurrence, occurrences, occurrences_of}
use Rattle.cts_postorder.proofs.Alike.{AlikeLists}
use Rattle.cts_postorder.proofs.Lists.{Whole, whole_of, root_of-labels}
use Rattle.cts_postorder.proofs.Places.{get_or-occurrences-root}
use Rattle.cts_postorder.proofs.Sizes.{root_number-next}
use Rattle.cts_postorder.proofs.Zips.{all_zip-append}
use Rattle.cts_topo.specs.declared.shape.ShapeNode.{ShapeNode}
use Rattle.cts_topo.specs.declared.shape.ShapeNode.TheVariants.{Leaf}
use Rattle.cts_topo.specs.Shape.{children, IsShapeOver}
use Rattle.cts_topo.proofs.Counts.{length-shape}
use Rattle.cts_merge.specs.declared.side.Finished.{Finished}
use Rattle.cts_up.specs.Plan.{IsPlan}
use Rattle.cts_tree.specs.declared.nodes.TreeNode.{TreeNode}
use Rattle.cts_tree.specs.Nodes.{children_of, tree_children}
use Rattle.cts_instance.specs.declared.parts.Parts.{Parts}
use Rattle.cts_instance.specs.Validity.{IsValid}
use Rattle.cts_elmore.specs.declared.figures.Figures.{Figures}
use Rattle.cts_elmore.specs.Figures.{AreFigures}
use Rattle.cts_elmore.specs.Skew.{greatest_below, least_below, skew}
use Rattle.cts_elmore.proofs.Below.{greatest_arrival, least_arrival}
use Rattle.cts_embed.specs.declared.node.NodeBalance.{NodeBalance}
use Rattle.cts_embed.specs.Balance.{IsBalance, IsRootWithin}
use Rattle.cts_embed.specs.BalancedTree.{IsBalancedNode, IsBalancedTree}
use Rattle.cts_embed.specs.Fitting.{Fits}
use Rattle.cts_embed.specs.PlacedTree.{IsPlacedNode, IsPlacedTree}
use Rattle.cts_embed.specs.Range.{IsInRange}
use Rattle.cts_embed.proofs.BalanceExists.{balanced_tree}
use Rattle.cts_embed.proofs.BalanceExists as exists
use Rattle.cts_embed.proofs.NodeKinds.{same_kids}
use Rattle.cts_embed.proofs.Pins.{sinks_small}
use Rattle.cts_embed.proofs.PlacedFits.{placed_fits, placed_post_order}
use Rattle.cts_embed.proofs.Range.{in_range}
use Rattle.cts_embed.proofs.Unique.{balance_one}
use Rattle.cts_plain.proofs.WithinLimits.{Agrees, lists, root_agrees}
use Rattle.cts_plain.specs.declared.below.Below.{Below}
use Rattle.cts_plain.specs.declared.totals.Totals.{Totals}
use Rattle.cts_plain.specs.Below.{IsBelow, IsPlacedBelow}
use Rattle.cts_plain.specs.Totals.{AreTotalsOver}
use Rattle.cts_plain.proofs.Joined.{placed_size}
use Rattle.cts_plain.proofs.FiguresExist.{figures_exist}

-- ---- a placed tree: its nodes are numbered as those of the shape, and stand in a list
same : (parts : Parts) (o : Occurrence ShapeNode) (m : TreeNode) → IsPlacedNode parts o m → tree_children m ≡ children (label o.here)
same parts o m node = same_kids parts.sinks (label o.here) node.finished.buffer m.kind node.placed.kind

same_number : (parts : Parts) (offset : ℕ) (up : List (BinaryTree ShapeNode)) (t : BinaryTree ShapeNode) (placed : BinaryTree TreeNode)
    → IsPlacedBelow parts up t placed → root_number offset placed ≡ root_number offset t
unfolding IsPlacedBelow root_number
same_number parts offset up (tip n) (tip m) is = refl
same_number parts offset up (tip n) (fork l' r' m) is = absurd is
same_number parts offset up (fork l r n) (tip m) is = absurd is
same_number parts offset up (fork l r n) (fork l' r' m) is =
    omega (arith, placed_size parts (fork l r n ∷ up) l l' is.0, placed_size parts (fork l r n ∷ up) r r' is.1)

numbered : (parts : Parts) (offset : ℕ) (up : List (BinaryTree ShapeNode)) (t : BinaryTree ShapeNode) (placed : BinaryTree TreeNode)
    → IsPlacedBelow parts up t placed → IsNumbered children offset t → IsNumbered tree_children offset placed
unfolding IsPlacedBelow IsNumbered label
numbered parts offset up (tip n) (tip m) is of_shape = same parts (occurrence up (tip n)) m is ∙ of_shape
numbered parts offset up (tip n) (fork l' r' m) is of_shape = absurd is
numbered parts offset up (fork l r n) (tip m) is of_shape = absurd is
numbered parts offset up (fork l r n) (fork l' r' m) is of_shape =
    let below : List (BinaryTree ShapeNode) = fork l r n ∷ up in
    let s : size l' ≡ size l = placed_size parts below l l' is.0 in (
      numbered parts offset below l l' is.0 of_shape.0,
      subst (λ i. IsNumbered tree_children (offset + i) r') (sym s) (numbered parts (offset + size l) below r r' is.1 of_shape.1),
      same parts (occurrence up (fork l r n)) m is.2 ∙ of_shape.2
          ∙ ap Some (ap₂ (λ x y. (x, y)) (sym (same_number parts offset below l l' is.0))
          (sym (same_number parts (offset + size l) below r r' is.1) ∙ ap (λ i. root_number (offset + i) r') (sym s))),
    )

listed : (parts : Parts) (up : List (BinaryTree ShapeNode)) (t : BinaryTree ShapeNode) (placed : BinaryTree TreeNode)
    → IsPlacedBelow parts up t placed → AllZip (IsPlacedNode parts) (occurrences up t) (labels placed)
unfolding IsPlacedBelow occurrences labels
listed parts up (tip n) (tip m) is = (is, tt)
listed parts up (tip n) (fork l' r' m) is = absurd is
listed parts up (fork l r n) (tip m) is = absurd is
listed parts up (fork l r n) (fork l' r' m) is =
    let below : List (BinaryTree ShapeNode) = fork l r n ∷ up in
    let R : Occurrence ShapeNode → TreeNode → Type 0 = IsPlacedNode parts in
    all_zip-append R (occurrences below l ++ occurrences below r) (occurrence up (fork l r n) ∷ []) (labels l' ++ labels r') (m ∷ [])
    (all_zip-append R (occurrences below l) (occurrences below r) (labels l') (labels r') (listed parts below l l' is.0)
    (listed parts below r r' is.1))
    (is.2, tt)

skew_is : (i : Parts) (root : BinaryTree TreeNode) → skew i root ≡ greatest_below i root - least_below i root
unfolding skew
skew_is i root = omega (arith, greatest_arrival i root, least_arrival i root)

-- ---- a shape, its root, and what is told of it
module _ (parts : Parts) (shape : List ShapeNode) (over : IsShapeOver (length parts.sinks) shape) (valid : IsValid parts)
    (root : ℕ) (last : root + 1 ≡ length shape) (b : Below) (is : IsBelow parts shape root b) where
  ok : IsPostOrder (map children shape)
  ok = over.post_order

  w : Whole children shape
  w = whole_of children shape ok

  none : Occurrence ShapeNode
  none = occurrence [] (tip (Leaf 0))

  at_root : get_or (occurrences_of children shape) root none ≡ occurrence [] w.tree
  at_root =
      ap (λ os. get_or os root none) w.occurrences_are
      ∙ ap (λ k. get_or (occurrences [] w.tree) k none) (omega (arith, root_number-next 0 w.tree, w.size_is, last))
      ∙ get_or-occurrences-root [] w.tree none

  whole : IsPlacedBelow parts [] w.tree is.placed
  whole = subst (λ (q : Occurrence ShapeNode). IsPlacedBelow parts q.above q.here is.placed) at_root (is.is_placed none)

  placed : List TreeNode
  placed = labels is.placed

  is_placed : IsPlacedTree parts shape (labels is.placed)
  is_placed =
      subst (λ os. AllZip (IsPlacedNode parts) os (labels is.placed)) (sym w.occurrences_are) (listed parts [] w.tree is.placed whole)

  placed_ok : IsPostOrder (map tree_children (labels is.placed))
  placed_ok = placed_post_order parts shape (labels is.placed) is_placed ok

  fits : Fits parts (labels is.placed)
  fits = placed_fits parts shape (labels is.placed) is_placed valid over

  root_is : root_of tree_children (labels is.placed) ≡ Some is.placed
  root_is =
      root_of-labels tree_children is.placed
      (numbered parts 0 [] w.tree is.placed whole w.numbered)

  -- its numbers are small
  pub root_ranged : IsInRange b.balance
  root_ranged =
      in_range parts.params parts.sinks is.placed b.balance is.balanced valid.params (sinks_small parts valid)
      (omega (arith, placed_size parts [] w.tree is.placed whole, w.size_is, length-shape (length parts.sinks) shape over, valid.sink_count))

  -- where the root is within the limits
  module _ (plan : List Finished) (is_plan : IsPlan parts.params parts.sinks shape plan) (within : IsRootWithin parts b.route b.balance) where
    v : Whole tree_children (labels is.placed)
    v = exists.w parts (labels is.placed) placed_ok

    same_root : is.placed ≡ v.tree
    same_root = let names : Some is.placed ≡ Some v.tree = sym root_is ∙ v.root_is in cc

    tree : (tree : List TreeNode) × IsBalancedTree parts (labels is.placed) tree
    unfolding v
    tree =
        balanced_tree parts (labels is.placed) placed_ok b.balance
        (subst (λ t. IsBalance parts.params parts.sinks t b.balance) same_root is.balanced)
        (subst (λ (t : BinaryTree TreeNode). IsRootWithin parts (label t).route.length b.balance) same_root
        (subst (λ x. IsRootWithin parts x b.balance) (sym is.route) within))

    l : AlikeLists (IsBalancedNode parts) tree_children tree_children (λ o m node. ap children_of node.kind) (labels is.placed) (tree.0)
    l = lists parts (labels is.placed) placed_ok (tree.0) (tree.1)

    at : Agrees parts (tree.1).within.balance l.second × ((label l.second).wire ≡ (label (tree.1).within.root).route.length)
    at = root_agrees parts (labels is.placed) placed_ok (tree.0) (tree.1) l.first l.second l.first_is l.alike

    one_root : (tree.1).within.root ≡ is.placed
    one_root = let names : Some (tree.1).within.root ≡ Some is.placed = sym (tree.1).within.whole.whole ∙ root_is in cc

    one_balance : (tree.1).within.balance ≡ b.balance
    one_balance =
        balance_one parts.params parts.sinks is.placed (tree.1).within.balance b.balance
        (subst (λ t. IsBalance parts.params parts.sinks t (tree.1).within.balance) one_root (tree.1).within.whole.balanced) is.balanced

    agrees : Agrees parts b.balance l.second
    agrees = subst (λ p. Agrees parts p l.second) one_balance (at.0)

    wire_above : (label l.second).wire ≡ b.route
    wire_above = at.1 ∙ ap (λ (t : BinaryTree TreeNode). (label t).route.length) one_root ∙ is.route

    figures : (figures : Figures) × AreFigures parts (tree.0) figures
    figures = figures_exist parts (tree.0) l.second l.second_is

    figured_root : (figures.1).root ≡ l.second
    figured_root = let names : Some (figures.1).root ≡ Some l.second = sym (figures.1).root_is ∙ l.second_is in cc

    skew_told : (figures.0).skew ≡ b.balance.greatest - b.balance.least
    skew_told =
        (figures.1).figures_of.skew_is ∙ ap (skew parts) figured_root ∙ skew_is parts l.second
        ∙ omega (arith, agrees.greatest, agrees.least)

    wire_told : (figures.0).wire_total ≡ b.balance.wires + b.route
    wire_told =
        (figures.1).figures_of.wire_total
        ∙ ap (λ (t : BinaryTree TreeNode). sum_by (λ (n : TreeNode). n.wire) (labels t)) figured_root
        ∙ agrees.wires ∙ ap (λ x. b.balance.wires + x) wire_above

    pub totals_told : AreTotalsOver parts shape (record { skew = b.balance.greatest - b.balance.least; wire = b.balance.wires + b.route })
    totals_told = record {
      tree = tree.0;
      is_tree = record {
        plan = plan;
        is_plan = is_plan;
        placed = labels is.placed;
        is_placed = is_placed;
        is_balanced = tree.1;
      };
      figures = figures.0;
      are_figures = figures.1;
      skew_is = skew_told;
      wire_is = wire_told;
    }
