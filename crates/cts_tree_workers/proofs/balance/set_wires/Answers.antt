-- The whole tree is balanced as a stretch from number 0 on, and then the limits are asked of its root.
use Rattle.std.proofs.Common.{inr, refl, arith}
use Rattle.std.proofs.lemmas.Result.{IfOk-at_ok}
use Rattle.cts_postorder.proofs.Lists.{length_pos}
use Rattle.cts_postorder.proofs.Stretches.{all_from_start}
use Rattle.cts_tree.specs.Nodes.{tree_children}
use Rattle.cts_embed.proofs.Assembled.{same_as_placed}
use Rattle.cts_embed.proofs.Root.{all_within, root_beyond, root_route}
use Rattle.cts_embed.proofs.Rooted.{whole_post_order, whole_balance, whole_stretch, rooted}
use Rattle.cts_tree_workers.specs.Balancing.{IsBalancedPart}
use Rattle.cts_tree_workers.proofs.balance.set_wires.Goals as goal

pub by_halves-requires-clause-ready : goal.by_halves-requires-clause-ready
by_halves-requires-clause-ready g c κs within = record {
  few = omega (arith, c.requires.fits.few);
  post_order = whole_post_order c.args.nodes.now c.requires.post_order;
  numbered = all_from_start tree_children c.args.nodes.now;
  fits = c.requires.fits;
  pins_are = c.requires.pins;
}

pub overflow_sub-last : goal.overflow_sub-last
overflow_sub-last g c = omega (arith, c.by_halves.auto.room, length_pos tree_children c.args.nodes.now c.requires.post_order)

pub bounds-nodes-last : goal.bounds-nodes-last
bounds-nodes-last g c = omega (arith, c.by_halves.auto.room, length_pos tree_children c.args.nodes.now c.requires.post_order)

pub bounds-nodes-last-in_ok-root : goal.bounds-nodes-last-in_ok-root
bounds-nodes-last-in_ok-root g c =
    omega (arith, c.by_halves.auto.room, length_pos tree_children c.args.nodes.now c.requires.post_order)

pub returns-then-not-is_root_within-clause-ends : goal.returns-then-not-is_root_within-clause-ends
returns-then-not-is_root_within-clause-ends g c =
    inr (root_beyond c.args.instance.now c.args.nodes.now c.requires.post_order c.in_ok-root.root
    (whole_balance c.args.instance.now c.args.nodes.now c.in_ok-root.root (IfOk-at_ok (IsBalancedPart c.args.instance.now 0 c.args.nodes.now c.by_halves.new.room) c.in_ok-root.was c.by_halves.ensures.balanced).balanced)
    c.by_halves.new.room
    (same_as_placed c.args.instance.now tree_children c.args.nodes.now c.requires.post_order c.by_halves.new.room
    (whole_stretch c.args.instance.now c.args.nodes.now c.by_halves.new.room (IfOk-at_ok (IsBalancedPart c.args.instance.now 0 c.args.nodes.now c.by_halves.new.room) c.in_ok-root.was c.by_halves.ensures.balanced).wired))
    c.index-nodes-last.result (λ within. let clash = c.if-not-is_root_within.ensures.1 within in cc))

pub bounds-nodes-last-else-not-is_root_within : goal.bounds-nodes-last-else-not-is_root_within
bounds-nodes-last-else-not-is_root_within g c =
    omega (arith, c.by_halves.auto.room, length_pos tree_children c.args.nodes.now c.requires.post_order)

pub bounds-nodes-last-else-not-is_root_within-2 : goal.bounds-nodes-last-else-not-is_root_within-2
bounds-nodes-last-else-not-is_root_within-2 g c =
    omega (arith, c.by_halves.auto.room, length_pos tree_children c.args.nodes.now c.requires.post_order)

pub returns-clause-tree : goal.returns-clause-tree
returns-clause-tree g c =
    let below =
    whole_stretch c.args.instance.now c.args.nodes.now c.by_halves.new.room (IfOk-at_ok (IsBalancedPart c.args.instance.now 0 c.args.nodes.now c.by_halves.new.room) c.in_ok-root.was c.by_halves.ensures.balanced).wired in
    let same =
    same_as_placed c.args.instance.now tree_children c.args.nodes.now c.requires.post_order c.by_halves.new.room below in
    let root = whole_balance c.args.instance.now c.args.nodes.now c.in_ok-root.root (IfOk-at_ok (IsBalancedPart c.args.instance.now 0 c.args.nodes.now c.by_halves.new.room) c.in_ok-root.was c.by_halves.ensures.balanced).balanced in
    record {
      within = all_within c.args.instance.now c.args.nodes.now c.requires.post_order c.in_ok-root.root root c.by_halves.new.room same
          c.index-nodes-last.result (c.if-not-is_root_within.ensures.0 refl);
      nodes = rooted c.args.instance.now c.args.nodes.now c.requires.post_order c.by_halves.new.room below same _ _
          (root_route c.args.instance.now c.args.nodes.now c.requires.post_order c.in_ok-root.root root c.by_halves.new.room same
          c.index-nodes-last.result);
    }
