-- A placed tree that is balanced has no node that is beyond, and one number at most is the least that is.
use Rattle.std.proofs.Common.{◌≡◌, ℕ, inl, inr, List, [], ◌∷◌, ◌++◌, map, slice_get, Some, sym, ap, subst, ◌∙◌, arith}
use Rattle.std.specs.List.{All}
use Rattle.std.proofs.lemmas.List.Elements.{All-append, All-cons, All-nil}
use Rattle.std.proofs.lemmas.Option.{slice_get_within, get_or_from_slice_get}
use Rattle.cts_units.specs.declared.params.Sink.{Sink}
use Rattle.cts_units.specs.declared.params.Params.{Params}
use Rattle.cts_postorder.specs.BinaryTree.{BinaryTree, tip, fork, label, subtrees}
use Rattle.cts_postorder.specs.PostOrder.{IsPostOrder, trees_of}
use Rattle.cts_postorder.specs.Pass.{IsLeastFailure}
use Rattle.cts_postorder.proofs.Lists.{Whole, whole_of}
use Rattle.cts_postorder.proofs.Upward.{least_failure_unique}
use Rattle.cts_tree.specs.declared.nodes.TreeNode.{TreeNode}
use Rattle.cts_tree.specs.Nodes.{tree_children}
use Rattle.cts_instance.specs.declared.parts.Parts.{Parts}
use Rattle.cts_embed.specs.declared.node.NodeBalance.{NodeBalance}
use Rattle.cts_embed.specs.Balance.{IsBalance, IsBeyondBalance, IsRootWithin}
use Rattle.cts_embed.specs.BalancedTree.{IsBalancedWhole}
use Rattle.cts_embed.specs.Laws.{BalancedIsNotBeyond, LeastBeyondIsOne}
use Rattle.cts_embed.proofs.Unique.{balance_one, balanced_not_beyond}

-- no part of a tree that is balanced is beyond
pub none_beyond : (params : Params) (sinks : List Sink) (t : BinaryTree TreeNode) (p : NodeBalance) → IsBalance params sinks t p
    → All (λ u. ¬ IsBeyondBalance params sinks u) (subtrees t)
unfolding IsBalance subtrees
none_beyond params sinks (tip n) p is =
    All-cons (λ u. ¬ IsBeyondBalance params sinks u) (tip n) [] (balanced_not_beyond params sinks (tip n) p is) (All-nil _)
none_beyond params sinks (fork l r n) p is =
    let Fine : BinaryTree TreeNode → Type 0 = λ u. ¬ IsBeyondBalance params sinks u in
    All-append Fine (subtrees l ++ subtrees r) (fork l r n ∷ [])
    (All-append Fine (subtrees l) (subtrees r) (none_beyond params sinks l is.0 is.2) (none_beyond params sinks r is.1 is.3))
    (All-cons Fine (fork l r n) [] (balanced_not_beyond params sinks (fork l r n) p is) (All-nil _))

module _ (parts : Parts) (placed : List TreeNode) (ok : IsPostOrder (map tree_children placed)) where
  none_fails : (root : BinaryTree TreeNode) (balance : NodeBalance) (k : ℕ) → IsBalancedWhole parts placed root balance
      → ¬ IsLeastFailure tree_children placed (IsBeyondBalance parts.params parts.sinks) k
  none_fails root balance k is f =
      let w : Whole tree_children placed = whole_of tree_children placed ok in
      let names : Some w.tree ≡ Some root = sym w.root_is ∙ is.whole in
      let whole : w.tree ≡ root = cc in
      let trees : trees_of tree_children placed ≡ subtrees root = w.trees_are ∙ ap subtrees whole in
      let found : slice_get (subtrees root) k ≡ Some f.tree = ap (λ ts. slice_get ts k) (sym trees) ∙ f.found in
      none_beyond parts.params parts.sinks root balance is.balanced k f.tree (slice_get_within (subtrees root) k f.tree found)
      (subst (IsBeyondBalance parts.params parts.sinks) (sym (get_or_from_slice_get (subtrees root) k f.tree f.tree found)) f.fails)

  one_whole : (root root' : BinaryTree TreeNode) (b b' : NodeBalance) → IsBalancedWhole parts placed root b
      → IsBalancedWhole parts placed root' b' → (root ≡ root') × (b ≡ b')
  one_whole root root' b b' p q =
      let names : Some root ≡ Some root' = sym p.whole ∙ q.whole in
      let same : root ≡ root' = cc in (
        same,
        balance_one parts.params parts.sinks root' b b'
            (subst (λ t. IsBalance parts.params parts.sinks t b) same p.balanced) q.balanced,
      )

  not_over : (root root' : BinaryTree TreeNode) (b b' : NodeBalance) → (root ≡ root') × (b ≡ b')
      → IsRootWithin parts (label root).route.length b → IsRootWithin parts (label root').route.length b'
  not_over root root' b b' same within =
      subst (λ (t : BinaryTree TreeNode). IsRootWithin parts (label t).route.length b') (same.0)
      (subst (λ (x : NodeBalance). IsRootWithin parts (label root).route.length x) (same.1) within)

pub balanced_tree_not_beyond : BalancedIsNotBeyond
balanced_tree_not_beyond parts placed tree k ok p beyond =
    elim beyond [
      | inl pair ↦ none_fails parts placed ok p.within.root p.within.balance k p.within.whole pair
      | inr root ↦
          root.over
          (not_over parts placed ok p.within.root root.root p.within.balance root.balance
          (one_whole parts placed ok p.within.root root.root p.within.balance root.balance p.within.whole root.whole) p.within.within)
    ]

pub least_beyond_one : LeastBeyondIsOne
least_beyond_one parts placed j k ok p q =
    elim p [
      | inl first ↦ elim q [
        | inl second ↦
            least_failure_unique tree_children (IsBeyondBalance parts.params parts.sinks) placed j k first second
        | inr second ↦ absurd (none_fails parts placed ok second.root second.balance j second.whole first)
      ]
      | inr first ↦ elim q [
        | inl second ↦ absurd (none_fails parts placed ok first.root first.balance k first.whole second)
        | inr second ↦ omega (arith, first.last, second.last)
      ]
    ]
