use Rattle.std.proofs.Common.{arith}
use Rattle.cts_tree_workers.proofs.Gathering.{some, first_below, middle_within, within, count_inside, front_ready, back_ready, is_cut}
use Rattle.cts_tree_workers.proofs.gather.GatherHalved.cut.Goals as goal

pub overflow_sub-last : goal.overflow_sub-last
overflow_sub-last c = some c.args.self.now c.args.part.now c.args._room.now c.requires

pub bounds-part-last : goal.bounds-part-last
bounds-part-last c = omega (arith, some c.args.self.now c.args.part.now c.args._room.now c.requires)

pub overflow_sub-middle : goal.overflow_sub-middle
overflow_sub-middle c =
    first_below c.args.self.now c.args.part.now c.args._room.now c.requires c.in-Pair.left c.in-Pair.right c.in-Pair.buffer _ c.in-Pair.is

pub split_at-requires-2 : goal.split_at-requires-2
split_at-requires-2 c =
    omega (
      arith,
      c.split_at.ensures.front_len,
      middle_within c.args.self.now c.args.part.now c.args._room.now c.requires c.in-Pair.left c.in-Pair.right c.in-Pair.buffer _ c.in-Pair.is,
    )

pub split_at-requires-3 : goal.split_at-requires-3
split_at-requires-3 c =
    count_inside c.args.self.now c.args.part.now c.args._room.now c.requires c.in-Pair.left c.in-Pair.right c.in-Pair.buffer _ c.in-Pair.is
    c.split_at.result.0.now c.split_at-2.result.0.now c.split_at-2.result.1.now c.split_at.ensures.front c.split_at-2.ensures.front
    c.split_at-2.ensures.back

pub returns-clause-within : goal.returns-clause-within
returns-clause-within c =
    within c.args.self.now c.args.part.now c.args._room.now c.requires c.in-Pair.left c.in-Pair.right c.in-Pair.buffer _ c.in-Pair.is

pub returns-clause-front : goal.returns-clause-front
returns-clause-front c =
    front_ready c.args.self.now c.args.part.now c.args._room.now c.requires c.in-Pair.left c.in-Pair.right c.in-Pair.buffer _ c.in-Pair.is
    c.split_at-2.result.0 c.split_at-2.result.1 c.split_at.result.0.now c.split_at.ensures.front c.split_at-2.ensures.front
    c.split_at-2.ensures.back c.split_at-3.result.0 c.split_at-3.result.1 c.split_at-3.ensures.front c.split_at-3.ensures.back

pub returns-clause-back : goal.returns-clause-back
returns-clause-back c =
    back_ready c.args.self.now c.args.part.now c.args._room.now c.requires c.in-Pair.left c.in-Pair.right c.in-Pair.buffer _ c.in-Pair.is
    c.split_at-2.result.0 c.split_at-2.result.1 c.split_at.result.0.now c.split_at.ensures.front c.split_at-2.ensures.front
    c.split_at-2.ensures.back c.split_at-3.result.0 c.split_at-3.result.1 c.split_at-3.ensures.front c.split_at-3.ensures.back

pub returns-clause-cut : goal.returns-clause-cut
returns-clause-cut c =
    is_cut c.args.self.now c.args.part.now c.args._room.now c.requires c.in-Pair.left c.in-Pair.right c.in-Pair.buffer _ c.in-Pair.is
    c.split_at-2.result.0 c.split_at-2.result.1 c.split_at.result.0.now c.split_at.ensures.front c.split_at-2.ensures.front
    c.split_at-2.ensures.back c.split_at-3.result.0 c.split_at-3.result.1 c.split_at-3.ensures.front c.split_at-3.ensures.back
