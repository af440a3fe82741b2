-- The delays of a whole tree that is within the limits.
use Rattle.std.proofs.Common.{◌≡◌, ◌-◌, ◌≤◌, inr, List, length, get_or, Some, sym, ap, subst, ◌∙◌, arith}
use Rattle.std.proofs.lemmas.Option.{get_or_from_slice_get, slice_get_within}
use Rattle.cts_units.specs.Limits.{max_delay}
use Rattle.cts_postorder.specs.BinaryTree.{BinaryTree}
use Rattle.cts_postorder.specs.PostOrder.{root_of, trees_of}
use Rattle.cts_tree.specs.declared.nodes.TreeNode.{TreeNode}
use Rattle.cts_tree.specs.Nodes.{tree_children}
use Rattle.cts_instance.specs.declared.parts.Parts.{Parts}
use Rattle.cts_elmore.specs.declared.figures.Figures.{Figures}
use Rattle.cts_elmore.specs.Figures.{AreFigures}
use Rattle.cts_elmore.specs.Limits.{IsRootOver, IsWithinLimits, great_leaf_delay}
use Rattle.cts_elmore.specs.Skew.{skew, greatest_of, least_of, leaf_delays, leaf_arrivals}
use Rattle.cts_elmore.proofs.Below.{greatest_delay, least_delay, greatest_arrival, least_arrival}
use Rattle.cts_elmore.proofs.Rising.{least_le_greatest, least_delay_le_greatest, delay_le_arrival, not_above}

-- its root is not over them
pub root_within : (i : Parts) (nodes : List TreeNode) (root : BinaryTree TreeNode) → IsWithinLimits i nodes
    → root_of tree_children nodes ≡ Some root → ¬ IsRootOver i root
unfolding root_of
root_within i nodes root within is = λ over.
    let trees : List (BinaryTree TreeNode) = trees_of tree_children nodes in
    let same : get_or trees (length nodes - 1) root ≡ root = get_or_from_slice_get trees (length nodes - 1) root root is in
    within (length nodes - 1) root (slice_get_within trees (length nodes - 1) root is)
    (inr (is ∙ ap Some (sym same), subst (IsRootOver i) (sym same) over))

-- so no arrival and no delay of a leaf is, and neither is the skew
module _ (i : Parts) (root : BinaryTree TreeNode) (within : ¬ IsRootOver i root) where
  greatest_arrival_within : greatest_of (leaf_arrivals i root) ≤ max_delay
  greatest_arrival_within = omega (arith, greatest_arrival i root, not_above _ max_delay (λ above. within (great_leaf_delay above)))

  least_arrival_within : least_of (leaf_arrivals i root) ≤ max_delay
  least_arrival_within =
      omega (arith, greatest_arrival_within, greatest_arrival i root, least_arrival i root, least_le_greatest i root)

  greatest_within : greatest_of (leaf_delays i root) ≤ max_delay
  greatest_within = omega (arith, greatest_arrival_within, greatest_arrival i root, greatest_delay i root, delay_le_arrival i root)

  least_within : least_of (leaf_delays i root) ≤ max_delay
  least_within = omega (arith, greatest_within, greatest_delay i root, least_delay i root, least_delay_le_greatest i root)

  small_skew : skew i root ≤ max_delay
  unfolding skew
  small_skew = omega (arith, greatest_arrival_within)

-- its greatest delay, its least, its skew, and its greatest and its least arrival are at most the limit of delays
pub totals_within : (i : Parts) (nodes : List TreeNode) (figures : Figures) → IsWithinLimits i nodes → AreFigures i nodes figures
    → (figures.greatest ≤ max_delay) × (figures.least ≤ max_delay) × (figures.skew ≤ max_delay)
    × (figures.arrival_greatest ≤ max_delay) × (figures.arrival_least ≤ max_delay)
totals_within i nodes figures within are =
    let root : ¬ IsRootOver i are.root = root_within i nodes are.root within are.root_is in (
      omega (arith, are.figures_of.greatest, greatest_within i are.root root),
      omega (arith, are.figures_of.least, least_within i are.root root),
      omega (arith, are.figures_of.skew_is, small_skew i are.root root),
      omega (arith, are.figures_of.arrival_greatest, greatest_arrival_within i are.root root),
      omega (arith, are.figures_of.arrival_least, least_arrival_within i are.root root),
    )
