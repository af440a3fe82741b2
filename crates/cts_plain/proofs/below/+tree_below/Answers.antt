use Rattle.std.proofs.Common.{◌<◌, sym, subst, arith}
use Rattle.cts_embed.specs.declared.node.NodeBalance.{NodeBalance}
use Rattle.cts_plain.specs.declared.below.Below.{Below}
use Rattle.cts_plain.specs.Below.{IsBelow}
use Rattle.cts_plain.proofs.Joined.{buffer_within, leaf_is_below, left_before, left_can, pair_is_below, part_in_range, right_before, right_can, sink_within}
use Rattle.cts_plain.proofs.below.+tree_below.Goals.{in-Leaf, in-Pair+in_ok-b-in-Pair+in_ok-a-in-Pair+in_ok-balance-in-Pair}
use Rattle.cts_plain.proofs.below.+tree_below.Goals as goal

pub leaf_below-balance-requires : goal.leaf_below-balance-requires
leaf_below-balance-requires t c =
    sink_within c.args.instance.now c.args.nodes.now c.args.sites.now c.args.number c.args.from c.requires.ready c.in-Ok.node c.in-Ok.ensures.placed
    c.in-Leaf.id c.in-Leaf.sink c.in-Leaf.is

pub tree_below-requires : goal.tree_below-requires
tree_below-requires t c = (
  omega (
    arith,
    c.decreases,
    right_before c.args.instance.now c.args.nodes.now c.args.sites.now c.args.number c.args.from c.requires.ready c.in-Ok.node c.in-Ok.ensures.placed
        c.in-Pair.left c.in-Pair.right c.in-Pair.buffer c.in-Pair.is,
  ),
  (
    c.requires.ground,
    right_can c.args.instance.now c.args.nodes.now c.args.sites.now c.args.number c.args.from c.requires.ready c.in-Ok.node c.in-Ok.ensures.placed
        c.in-Pair.left c.in-Pair.right c.in-Pair.buffer c.in-Pair.is,
  ),
)

pub tree_below-requires-in-Pair : goal.tree_below-requires-in-Pair
tree_below-requires-in-Pair t c = (
  omega (
    arith,
    c.decreases,
    left_before c.args.instance.now c.args.nodes.now c.args.sites.now c.args.number c.args.from c.requires.ready c.in-Ok.node c.in-Ok.ensures.placed
        c.in-Pair.left c.in-Pair.right c.in-Pair.buffer c.in-Pair.is,
  ),
  (
    c.requires.ground,
    left_can c.args.instance.now c.args.nodes.now c.args.sites.now c.args.number c.args.from c.requires.ready c.in-Ok.node c.in-Ok.ensures.placed
        c.in-Pair.left c.in-Pair.right c.in-Pair.buffer c.in-Pair.is,
  ),
)

pub pair_below-requires-clause-buffer : goal.pair_below-requires-clause-buffer
pair_below-requires-clause-buffer t c =
    buffer_within c.args.instance.now c.args.nodes.now c.args.sites.now c.args.number c.args.from c.requires.ready c.in-Ok.node c.in-Ok.ensures.placed
    c.in-Pair.left c.in-Pair.right c.in-Pair.buffer c.in-Pair.is

pub pair_below-requires-clause-a : goal.pair_below-requires-clause-a
pair_below-requires-clause-a t c =
    part_in_range c.args.instance.now c.args.nodes.now c.args.sites.now c.args.number c.args.from c.requires.ready c.in-Ok.node c.in-Ok.ensures.placed
    c.in-Pair.left c.in-Pair.right c.in-Pair.buffer c.in-Pair.is c.requires.ground.free.valid c.in-Pair.left c.in_ok-a-in-Pair.a
    (left_before c.args.instance.now c.args.nodes.now c.args.sites.now c.args.number c.args.from c.requires.ready c.in-Ok.node c.in-Ok.ensures.placed
    c.in-Pair.left c.in-Pair.right c.in-Pair.buffer c.in-Pair.is)
    c.in_ok-a-in-Pair.ensures

pub pair_below-requires-clause-b : goal.pair_below-requires-clause-b
pair_below-requires-clause-b t c =
    part_in_range c.args.instance.now c.args.nodes.now c.args.sites.now c.args.number c.args.from c.requires.ready c.in-Ok.node c.in-Ok.ensures.placed
    c.in-Pair.left c.in-Pair.right c.in-Pair.buffer c.in-Pair.is c.requires.ground.free.valid c.in-Pair.right c.in_ok-b-in-Pair.b
    (right_before c.args.instance.now c.args.nodes.now c.args.sites.now c.args.number c.args.from c.requires.ready c.in-Ok.node c.in-Ok.ensures.placed
    c.in-Pair.left c.in-Pair.right c.in-Pair.buffer c.in-Pair.is)
    c.in_ok-b-in-Pair.ensures

pub returns : goal.returns
returns t c =
    elim c.match-node.branch [
      | in-Leaf w ↦
          subst (λ (b : NodeBalance). IsBelow c.args.instance.now c.args.nodes.now c.args.number (record { balance = b; route = c.in-Ok.node.route.length }))
          (sym w.balance-is)
          (leaf_is_below c.args.instance.now c.args.nodes.now c.args.sites.now c.args.number c.args.from c.requires.ready c.in-Ok.node
          c.in-Ok.ensures.placed w.in-Leaf.id w.in-Leaf.sink w.in-Leaf.is w.leaf_below-balance.result w.leaf_below-balance.ensures)
      | in-Pair+in_ok-b-in-Pair+in_ok-a-in-Pair+in_ok-balance-in-Pair w ↦
          subst (λ (b : NodeBalance). IsBelow c.args.instance.now c.args.nodes.now c.args.number (record { balance = b; route = c.in-Ok.node.route.length }))
          (sym w.balance-is)
          (pair_is_below c.args.instance.now c.args.nodes.now c.args.sites.now c.args.number c.args.from c.requires.ready c.in-Ok.node
          c.in-Ok.ensures.placed w.in-Pair.left w.in-Pair.right w.in-Pair.buffer w.in-Pair.is w.in_ok-a-in-Pair.a w.in_ok-b-in-Pair.b
          w.in_ok-a-in-Pair.ensures w.in_ok-b-in-Pair.ensures _ w.in_ok-balance-in-Pair.ensures)
    ]
