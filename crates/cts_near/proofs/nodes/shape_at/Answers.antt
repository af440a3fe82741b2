use Rattle.std.proofs.Common.{◌++◌, length, map, sym, subst, ap, ◌∙◌}
use Rattle.cts_postorder.specs.BinaryTree.{labels}
use Rattle.cts_postorder.specs.PostOrder.{IsPostOrder}
use Rattle.cts_postorder.proofs.Spelling.{IsPostOrder-labels}
use Rattle.cts_topo.specs.Shape.{children}
use Rattle.cts_near.specs.Forest.{tree_at}
use Rattle.cts_near.specs.NearShape.{numbered}
use Rattle.cts_near.proofs.Covers.{IsNumbered-numbered}
use Rattle.cts_near.proofs.nodes.shape_at.Goals as goal

pub of-requires : goal.of-requires
of-requires c =
    let is =
    c.in_ok-push_tree.ensures
    ∙ ap (λ ns. ns ++ labels (numbered (length ns) (tree_at c.args.joins.now c.args.join))) c.in_ok-nodes.ensures.items in
    subst (λ ns. IsPostOrder (map children ns)) (sym is)
    (IsPostOrder-labels children (numbered 0 (tree_at c.args.joins.now c.args.join))
    (IsNumbered-numbered 0 (tree_at c.args.joins.now c.args.join)))
