use Rattle.std.proofs.Common.{arith}
use Rattle.cts_tree_workers.proofs.Balancing.{some, first_below, middle_within, count_inside, front_ready, back_ready, is_cut}
use Rattle.cts_tree_workers.proofs.balance.BalanceHalved.cut.Goals as goal

pub overflow_sub-last : goal.overflow_sub-last
overflow_sub-last c = some c.args.self.now c.args.part.now c.args.nodes.now c.requires

pub bounds-nodes-last : goal.bounds-nodes-last
bounds-nodes-last c = omega (arith, some c.args.self.now c.args.part.now c.args.nodes.now c.requires)

pub bounds-nodes-last-2 : goal.bounds-nodes-last-2
bounds-nodes-last-2 c = omega (arith, some c.args.self.now c.args.part.now c.args.nodes.now c.requires)

pub overflow_sub-middle : goal.overflow_sub-middle
overflow_sub-middle c =
    first_below c.args.self.now c.args.part.now c.args.nodes.now c.requires c.in-Pair.left c.in-Pair.right c.in-Pair.buffer _ c.in-Pair.is

pub split_at-requires : goal.split_at-requires
split_at-requires c =
    count_inside c.args.self.now c.args.part.now c.args.nodes.now c.requires c.in-Pair.left c.in-Pair.right c.in-Pair.buffer _ c.in-Pair.is

pub returns-clause-within : goal.returns-clause-within
returns-clause-within c = (
  middle_within c.args.self.now c.args.part.now c.args.nodes.now c.requires c.in-Pair.left c.in-Pair.right c.in-Pair.buffer _ c.in-Pair.is,
  omega arith,
)

pub returns-clause-front : goal.returns-clause-front
returns-clause-front c =
    front_ready c.args.self.now c.args.part.now c.args.nodes.now c.requires c.in-Pair.left c.in-Pair.right c.in-Pair.buffer _ c.in-Pair.is
    c.split_at.result.0 c.split_at.result.1 c.split_at.ensures.front c.split_at.ensures.back

pub returns-clause-back : goal.returns-clause-back
returns-clause-back c =
    back_ready c.args.self.now c.args.part.now c.args.nodes.now c.requires c.in-Pair.left c.in-Pair.right c.in-Pair.buffer _ c.in-Pair.is
    c.split_at.result.0 c.split_at.result.1 c.split_at.ensures.front c.split_at.ensures.back

pub returns-clause-cut : goal.returns-clause-cut
returns-clause-cut c =
    is_cut c.args.self.now c.args.part.now c.args.nodes.now c.requires c.in-Pair.left c.in-Pair.right c.in-Pair.buffer _ c.in-Pair.is
    c.split_at.result.0 c.split_at.result.1 c.split_at.ensures.front c.split_at.ensures.back
