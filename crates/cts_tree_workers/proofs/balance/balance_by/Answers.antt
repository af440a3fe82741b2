use Rattle.std.proofs.Common.{◌≡◌, ℕ, List, ◌++◌, map, length, sym, ap, subst, ◌∙◌, arith, take, take_at}
use Rattle.cts_postorder.specs.PostOrder.{IsPostOrder}
use Rattle.cts_tree.specs.declared.nodes.TreeNode.{TreeNode}
use Rattle.cts_tree.specs.Nodes.{tree_children}
use Rattle.cts_instance.specs.declared.parts.Parts.{Parts}
use Rattle.cts_embed.specs.BalancedTree.{IsBalancedTree}
use Rattle.cts_embed.proofs.Assembled.{assembled_post_order}
use Rattle.cts_tree_workers.proofs.balance.balance_by.Goals as goal

-- what is known of the nodes under the names that the code gives to the placed ones and to those that it hands on, behind
-- which nothing of an older list is left
balanced : (parts : Parts) (placed items lent new rest : List TreeNode) (n : ℕ) → items ≡ placed → lent ≡ items → length new ≡ length lent
    → n ≡ length items → IsBalancedTree parts lent new → IsBalancedTree parts placed (take n (new ++ rest))
balanced parts placed items lent new rest n given shown long count is =
    subst (λ ns. IsBalancedTree parts ns (take n (new ++ rest))) (shown ∙ given)
    (subst (IsBalancedTree parts lent) (sym (take_at new rest n (omega (arith, long, count, ap length shown)))) is)

post_order : (parts : Parts) (placed tree : List TreeNode) → IsPostOrder (map tree_children placed) → IsBalancedTree parts placed tree
    → IsPostOrder (map tree_children tree)
post_order parts placed tree ok is = assembled_post_order parts placed ok tree is.nodes

pub of-requires : goal.of-requires
of-requires g c =
    post_order c.args.instance.now c.args.placed _ c.into_nodes-nodes.ensures.post_order
    (balanced c.args.instance.now c.args.placed c.into_nodes-nodes.result.items c.as_mut_slice.result.now c.set_wires.new.nodes _
    c.into_nodes-nodes.result.len c.into_nodes-nodes.ensures.nodes c.as_mut_slice.ensures.value c.set_wires.auto.nodes
    (omega (arith, c.into_nodes-nodes.result.ok.0)) c.in_ok-set_wires.ensures.tree)

pub returns-clause-tree : goal.returns-clause-tree
returns-clause-tree g c =
    subst (IsBalancedTree c.args.instance.now c.args.placed) (sym c.of.ensures)
    (balanced c.args.instance.now c.args.placed c.into_nodes-nodes.result.items c.as_mut_slice.result.now c.set_wires.new.nodes _
    c.into_nodes-nodes.result.len c.into_nodes-nodes.ensures.nodes c.as_mut_slice.ensures.value c.set_wires.auto.nodes
    (omega (arith, c.into_nodes-nodes.result.ok.0)) c.in_ok-set_wires.ensures.tree)
