use Rattle.std.proofs.Common.{◌≡◌, [], ◌∷◌, map, Some, None, refl, sym, ap, subst}
use Rattle.cts_postorder.specs.PostOrder.{IsPostOrder, IsPostOrderFrom}
use Rattle.cts_tree.specs.declared.nodes.TreeNode.{TreeNode}
use Rattle.cts_tree.specs.Nodes.{children_of, tree_children}
use Rattle.cts_rows.proofs.figures.measured.Goals as goal

-- two leaves and the pair above them
pair_post_order : (a b p : TreeNode) → tree_children a ≡ None → tree_children b ≡ None → tree_children p ≡ Some (0, 1)
    → IsPostOrder (map tree_children (a ∷ b ∷ p ∷ []))
unfolding IsPostOrderFrom
pair_post_order a b p first second above =
    subst (λ x. IsPostOrderFrom (x ∷ tree_children b ∷ tree_children p ∷ []) [] 0) (sym first)
    (subst (λ x. IsPostOrderFrom (None ∷ x ∷ tree_children p ∷ []) [] 0) (sym second)
    (subst (λ x. IsPostOrderFrom (None ∷ None ∷ x ∷ []) [] 0) (sym above) (refl, tt)))

pub of-tree-requires : goal.of-tree-requires
of-tree-requires g c =
    subst (λ nodes. IsPostOrder (map tree_children nodes)) (sym c.in_ok-nodes.ensures.items)
    (pair_post_order c.node.result c.node-2.result c.node-3.result (ap children_of c.node.ensures.kind)
    (ap children_of c.node-2.ensures.kind) (ap children_of c.node-3.ensures.kind))
