use Rattle.std.proofs.Common.{◌≡◌, ℕ, ◌+◌, ◌-◌, List, length, get_or, sym, ap, subst, arith}
use Rattle.cts_postorder.specs.Cut.{IsCut}
use Rattle.cts_postorder.proofs.Cut.{cut_given, cut_within}
use Rattle.cts_postorder.proofs.Lists.{length_pos}
use Rattle.cts_tree.specs.declared.nodes.TreeNode.{TreeNode}
use Rattle.cts_tree.specs.Nodes.{children_of, children_from, tree_children}
use Rattle.cts_tree.proofs.Stretches.{counts_from}
use Rattle.cts_tree_workers.proofs.split.split_at_root.Goals as goal

-- the right part is told by the number that its first node has, under another name
named : (nodes front back : List TreeNode) (node : TreeNode) (middle : ℕ) → middle ≡ length front
    → IsCut tree_children (children_from middle) nodes front back node → IsCut tree_children (children_from (length front)) nodes front back node
named nodes front back node middle same = subst (λ k. IsCut tree_children (children_from k) nodes front back node) same

pub overflow_sub-last : goal.overflow_sub-last
overflow_sub-last c = omega (arith, length_pos tree_children c.args.nodes.now c.requires.post_order)

pub bounds-nodes-last : goal.bounds-nodes-last
bounds-nodes-last c = omega (arith, length_pos tree_children c.args.nodes.now c.requires.post_order)

pub bounds-nodes-last-2 : goal.bounds-nodes-last-2
bounds-nodes-last-2 c = omega (arith, length_pos tree_children c.args.nodes.now c.requires.post_order)

pub split_at-requires-2 : goal.split_at-requires-2
split_at-requires-2 c =
    omega (
      arith,
      c.split_at.ensures.front_len,
      cut_within tree_children c.args.nodes.now c.requires.post_order _ (c.in-Pair.left, c.in-Pair.right) (ap children_of c.in-Pair.is),
    )

pub returns-clause-split : goal.returns-clause-split
returns-clause-split c = record {
  node = get_or c.args.nodes.now (length c.args.nodes.now - 1) _;
  cut = named c.args.nodes.now c.split_at-2.result.0.now c.split_at-2.result.1.now _ (c.in-Pair.left + 1) (sym c.split_at-2.ensures.front_len)
      (cut_given tree_children c.args.nodes.now c.requires.post_order _ (c.in-Pair.left, c.in-Pair.right) (ap children_of c.in-Pair.is)
      (children_from (c.in-Pair.left + 1)) (counts_from (c.in-Pair.left + 1)) c.split_at.result.0.now c.split_at-2.result.0.now
      c.split_at-2.result.1.now c.split_at.ensures.front c.split_at-2.ensures.front c.split_at-2.ensures.back);
}
