use Rattle.std.proofs.Common.{inr, refl, arith}
use Rattle.cts_postorder.proofs.Lists.{length_pos}
use Rattle.cts_postorder.proofs.Stretches.{all_from_start}
use Rattle.cts_tree.specs.Nodes.{tree_children}
use Rattle.cts_embed.proofs.Assembled.{same_as_placed}
use Rattle.cts_embed.proofs.Root.{all_within, root_beyond, root_route}
use Rattle.cts_embed.proofs.Rooted.{whole_post_order, whole_balance, whole_stretch, rooted}
use Rattle.cts_embed.proofs.wires.set_wires.Goals as goal

pub balance_part-requires-clause-post_order : goal.balance_part-requires-clause-post_order
balance_part-requires-clause-post_order c = whole_post_order c.args.nodes.now c.requires.post_order

pub balance_part-requires-clause-numbered : goal.balance_part-requires-clause-numbered
balance_part-requires-clause-numbered c = all_from_start tree_children c.args.nodes.now

pub overflow_sub-last : goal.overflow_sub-last
overflow_sub-last c = omega (arith, c.balance_part.auto.nodes, length_pos tree_children c.args.nodes.now c.requires.post_order)

pub bounds-nodes-last : goal.bounds-nodes-last
bounds-nodes-last c = omega (arith, c.balance_part.auto.nodes, length_pos tree_children c.args.nodes.now c.requires.post_order)

pub bounds-nodes-last-in_ok-root : goal.bounds-nodes-last-in_ok-root
bounds-nodes-last-in_ok-root c =
    omega (arith, c.balance_part.auto.nodes, length_pos tree_children c.args.nodes.now c.requires.post_order)

pub is_root_within-requires : goal.is_root_within-requires
is_root_within-requires c = record { root = c.in_ok-root.ensures.range }

pub returns-then-not-is_root_within-clause-ends : goal.returns-then-not-is_root_within-clause-ends
returns-then-not-is_root_within-clause-ends c =
    inr (root_beyond c.args.instance.now c.args.nodes.now c.requires.post_order c.in_ok-root.root
    (whole_balance c.args.instance.now c.args.nodes.now c.in_ok-root.root c.in_ok-root.ensures.balance) c.balance_part.new.nodes
    (same_as_placed c.args.instance.now tree_children c.args.nodes.now c.requires.post_order c.balance_part.new.nodes
    (whole_stretch c.args.instance.now c.args.nodes.now c.balance_part.new.nodes c.in_ok-root.ensures.nodes))
    c.index-nodes-last.result (λ within. let clash = c.if-not-is_root_within.ensures.1 within in cc))

pub bounds-nodes-last-else-not-is_root_within : goal.bounds-nodes-last-else-not-is_root_within
bounds-nodes-last-else-not-is_root_within c =
    omega (arith, c.balance_part.auto.nodes, length_pos tree_children c.args.nodes.now c.requires.post_order)

pub bounds-nodes-last-else-not-is_root_within-2 : goal.bounds-nodes-last-else-not-is_root_within-2
bounds-nodes-last-else-not-is_root_within-2 c =
    omega (arith, c.balance_part.auto.nodes, length_pos tree_children c.args.nodes.now c.requires.post_order)

pub returns-clause-tree : goal.returns-clause-tree
returns-clause-tree c =
    let below = whole_stretch c.args.instance.now c.args.nodes.now c.balance_part.new.nodes c.in_ok-root.ensures.nodes in
    let same = same_as_placed c.args.instance.now tree_children c.args.nodes.now c.requires.post_order c.balance_part.new.nodes below in
    let root = whole_balance c.args.instance.now c.args.nodes.now c.in_ok-root.root c.in_ok-root.ensures.balance in
    record {
      within = all_within c.args.instance.now c.args.nodes.now c.requires.post_order c.in_ok-root.root root c.balance_part.new.nodes same
          c.index-nodes-last.result (c.if-not-is_root_within.ensures.0 refl);
      nodes = rooted c.args.instance.now c.args.nodes.now c.requires.post_order c.balance_part.new.nodes below same _ _
          (root_route c.args.instance.now c.args.nodes.now c.requires.post_order c.in_ok-root.root root c.balance_part.new.nodes same
          c.index-nodes-last.result);
    }
