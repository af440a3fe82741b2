-- What the pass upward and the root say of the first node that is over the limits.
use Rattle.std.proofs.Common.{◌≡◌, ℕ, ◌-◌, ◌<◌, List, map, length, Some, None, subst, arith}
use Rattle.std.specs.Prelude.{IfSome}
use Rattle.std.specs.List.{All, AllZip}
use Rattle.cts_postorder.specs.BinaryTree.{BinaryTree}
use Rattle.cts_postorder.specs.PostOrder.{IsPostOrder, trees_of, root_of}
use Rattle.cts_postorder.specs.Pass.{IsLeastFailure}
use Rattle.cts_postorder.proofs.Failures.{failed_before_root, failed_at_root, none_failed_at_root}
use Rattle.cts_postorder.proofs.Lists.{whole_of, length_pos}
use Rattle.cts_postorder.proofs.Zips.{all_zip-at}
use Rattle.cts_tree.specs.declared.nodes.TreeNode.{TreeNode}
use Rattle.cts_tree.specs.Nodes.{tree_children}
use Rattle.cts_instance.specs.declared.parts.Parts.{Parts}
use Rattle.cts_elmore.specs.declared.figures.NodeFigure.{NodeFigure}
use Rattle.cts_elmore.specs.declared.drive.Drive.{Drive}
use Rattle.cts_elmore.specs.Limits.{IsPairOver, IsRootOver, IsOver, IsWithinLimits}
use Rattle.cts_elmore.specs.Subtrees.{IsKnownBelow, DriveOrOver}

module _ (i : Parts) (nodes : List TreeNode) (ok : IsPostOrder (map tree_children nodes)) where
  pub first_pair_over : (k : ℕ) → IsLeastFailure tree_children nodes (IsPairOver i) k
      → IsLeastFailure tree_children nodes (IsOver i nodes) k
  first_pair_over k f = failed_before_root tree_children nodes ok (IsPairOver i) (IsRootOver i) k f

  module _ (figures : List NodeFigure) (all : AllZip (IsKnownBelow i) (trees_of tree_children nodes) figures) where
    no_pair_over : All (λ t. ¬ IsPairOver i t) (trees_of tree_children nodes)
    no_pair_over = λ k d h.
        let e : NodeFigure = record { below = 0; residue = 0; delay = 0; stage = 0; offset = 0 } in
        (all_zip-at (IsKnownBelow i) (trees_of tree_children nodes) figures k d e all h).not_over

    root_told : (P : BinaryTree TreeNode → Type 0) → IfSome (root_of tree_children nodes) P
        → P (whole_of tree_children nodes ok).tree
    root_told P p = subst (λ o. IfSome o P) (whole_of tree_children nodes ok).root_is p

    pub root_over : IfSome (root_of tree_children nodes) (λ root. DriveOrOver i root None) → (k : ℕ) → k ≡ length nodes - 1
        → IsLeastFailure tree_children nodes (IsOver i nodes) k
    root_over over k last =
        let some : 0 < length nodes = length_pos tree_children nodes ok in
        failed_at_root tree_children nodes ok (IsPairOver i) (IsRootOver i) k (whole_of tree_children nodes ok).tree
        (omega arith) (whole_of tree_children nodes ok).root_is no_pair_over (root_told (λ root. DriveOrOver i root None) over)

    pub none_over : (drive : Drive) → IfSome (root_of tree_children nodes) (λ root. DriveOrOver i root (Some drive))
        → IsWithinLimits i nodes
    none_over drive is =
        none_failed_at_root tree_children nodes ok (IsPairOver i) (IsRootOver i) (whole_of tree_children nodes ok).tree
        (whole_of tree_children nodes ok).root_is no_pair_over (root_told (λ root. DriveOrOver i root (Some drive)) is).not_over
