-- A whole tree as the stretch that begins at number 0.
use Rattle.std.proofs.Common.{List, map, sym, subst}
use Rattle.cts_postorder.specs.PostOrder.{IsPostOrder}
use Rattle.cts_tree.specs.declared.nodes.TreeNode.{TreeNode}
use Rattle.cts_tree.specs.Nodes.{children_from, tree_children}
use Rattle.cts_tree.proofs.Stretches.{whole_from_start}

pub post_order_from_start : (nodes : List TreeNode) → IsPostOrder (map tree_children nodes) → IsPostOrder (map (children_from 0) nodes)
post_order_from_start nodes ok = subst (λ kids. IsPostOrder (map kids nodes)) (sym whole_from_start) ok
