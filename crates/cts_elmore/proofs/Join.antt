-- A pair of any two parts, from their values and the wires above them.
use Rattle.std.proofs.Common.{◌≡◌, ℕ, ◌≤◌, Option, Some, None, sym, subst}
use Rattle.std.specs.Prelude.{MatchOption}
use Rattle.cts_units.specs.declared.params.Params.{Params}
use Rattle.cts_units.specs.Limits.{max_length}
use Rattle.cts_postorder.specs.BinaryTree.{BinaryTree, fork, label}
use Rattle.cts_tree.specs.declared.nodes.TreeNode.{TreeNode}
use Rattle.cts_tree.specs.Nodes.{buffer_of}
use Rattle.cts_instance.specs.declared.parts.Parts.{Parts}
use Rattle.cts_elmore.specs.declared.subtree.Subtree.{Subtree}
use Rattle.cts_elmore.specs.declared.subtree.Branch.{Branch}
use Rattle.cts_elmore.specs.Limits.{IsPairOver}
use Rattle.cts_elmore.specs.Subtrees.{IsSubtree, IsBranch, PairOrOver, IsJoinOf}
use Rattle.cts_elmore.proofs.Rising.{pair_is, pair_over}

module _ (i : Parts) (buffer : Option ℕ) (left right : ℕ) (a b : Subtree) (params : Params) (params_is : params ≡ i.params) (p q : Branch)
    (p_is : IsBranch params.wire left a p) (q_is : IsBranch params.wire right b q) (left_short : left ≤ max_length)
    (right_short : right ≤ max_length) where
  pub joined : (result : Option Subtree) → PairOrOver params.library buffer p q result → IsJoinOf i buffer left right a b result
  joined result is = λ l r n buffer_is left_is right_is a_is b_is.
      let left_branch : IsBranch i.params.wire left a p = subst (λ (w : Params). IsBranch w.wire left a p) params_is p_is in
      let right_branch : IsBranch i.params.wire right b q = subst (λ (w : Params). IsBranch w.wire right b q) params_is q_is in
      let named : PairOrOver i.params.library (buffer_of n.kind) p q result =
      subst (λ (o : Option ℕ). PairOrOver i.params.library o p q result) (sym buffer_is)
      (subst (λ (w : Params). PairOrOver w.library buffer p q result) params_is is) in
      by_result l r n left_is right_is a_is b_is left_branch right_branch result named
    where
      by_result : (l r : BinaryTree TreeNode) (n : TreeNode) → (label l).wire ≡ left → (label r).wire ≡ right → IsSubtree i l a
          → IsSubtree i r b → IsBranch i.params.wire left a p → IsBranch i.params.wire right b q → (o : Option Subtree)
          → PairOrOver i.params.library (buffer_of n.kind) p q o
          → MatchOption o (IsPairOver i (fork l r n)) (IsSubtree i (fork l r n))
      by_result l r n left_is right_is a_is b_is left_branch right_branch None over =
          pair_over i l r n a b a_is b_is left right left_is right_is p q left_branch right_branch over
      by_result l r n left_is right_is a_is b_is left_branch right_branch (Some s) is =
          pair_is i l r n a b a_is b_is left right left_is right_is p q left_branch right_branch s is left_short right_short
