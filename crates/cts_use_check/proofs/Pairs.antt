-- Two leaves and the pair above them are in post-order.
use Rattle.std.proofs.Common.{◌≡◌, [], ◌∷◌, map, Some, None, refl, sym, subst}
use Rattle.cts_postorder.specs.PostOrder.{IsPostOrder, IsPostOrderFrom}
use Rattle.cts_tree.specs.declared.nodes.TreeNode.{TreeNode}
use Rattle.cts_tree.specs.Nodes.{tree_children}

pub pair_post_order : (a b p : TreeNode) → tree_children a ≡ None → tree_children b ≡ None → tree_children p ≡ Some (0, 1)
    → IsPostOrder (map tree_children (a ∷ b ∷ p ∷ []))
unfolding IsPostOrderFrom
pair_post_order a b p first second above =
    subst (λ x. IsPostOrderFrom (x ∷ tree_children b ∷ tree_children p ∷ []) [] 0) (sym first)
    (subst (λ x. IsPostOrderFrom (None ∷ x ∷ tree_children p ∷ []) [] 0) (sym second)
    (subst (λ x. IsPostOrderFrom (None ∷ None ∷ x ∷ []) [] 0) (sym above) (refl, tt)))
