use Rattle.std.proofs.Common.{map, ap, sym, subst}
use Rattle.cts_postorder.specs.PostOrder.{IsPostOrder}
use Rattle.cts_tree.specs.Nodes.{children_of, tree_children}
use Rattle.cts_use_check.proofs.Pairs.{pair_post_order}
use Rattle.cts_use_check.proofs.tap.tree_of.Goals as goal

pub of-tree-requires : goal.of-tree-requires
of-tree-requires c =
    subst (λ nodes. IsPostOrder (map tree_children nodes)) (sym c.in_ok-nodes.ensures.items)
    (pair_post_order c.node.result c.node-2.result c.node-3.result (ap children_of c.node.ensures.kind)
    (ap children_of c.node-2.ensures.kind) (ap children_of c.node-3.ensures.kind))
