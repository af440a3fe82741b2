-- The pair over both parts is within the limits, and what is known of it is written into the last place.
use Rattle.std.proofs.Common.{subst, arith}
use Rattle.cts_tree_workers.specs.Gathering.{IsGathered}
use Rattle.cts_tree_workers.proofs.Gathering.{some_each, buffer_within, left_is_some, right_is_some, root_not_over, gathered}
use Rattle.cts_tree_workers.proofs.gather.GatherHalved.join.Goals as goal

pub overflow_sub-left_wire : goal.overflow_sub-left_wire
overflow_sub-left_wire c = (some_each c.args.self.now c.args.part.now c.args.first.now c.args.second.now c.args.own.now c.requires.2).0

pub bounds-first-first : goal.bounds-first-first
bounds-first-first c =
    omega (arith, (some_each c.args.self.now c.args.part.now c.args.first.now c.args.second.now c.args.own.now c.requires.2).0)

pub overflow_sub-right_wire : goal.overflow_sub-right_wire
overflow_sub-right_wire c = (some_each c.args.self.now c.args.part.now c.args.first.now c.args.second.now c.args.own.now c.requires.2).1

pub bounds-second-second : goal.bounds-second-second
bounds-second-second c =
    omega (arith, (some_each c.args.self.now c.args.part.now c.args.first.now c.args.second.now c.args.own.now c.requires.2).1)

pub join_parts-requires-clause-buffer : goal.join_parts-requires-clause-buffer
join_parts-requires-clause-buffer c =
    buffer_within c.args.self.now c.args.part.now c.args.first.now c.args.second.now c.args.own.now c.requires.2 _ c.own_buffer-buffer.result
    c.own_buffer-buffer.ensures

pub join_parts-requires-clause-a : goal.join_parts-requires-clause-a
join_parts-requires-clause-a c =
    left_is_some c.args.self.now c.args.part.now c.args.first.now c.args.second.now c.args.own.now c.requires.2
    c.args._front.now c.args._back.now c.in_ok-left.left c.in_ok-right.right
    (subst (IsGathered c.args.self.now c.args.first.now c.args._front.now) c.in_ok-left.was c.requires.3)
    (subst (IsGathered c.args.self.now c.args.second.now c.args._back.now) c.in_ok-right.was c.requires.4)

pub join_parts-requires-clause-b : goal.join_parts-requires-clause-b
join_parts-requires-clause-b c =
    right_is_some c.args.self.now c.args.part.now c.args.first.now c.args.second.now c.args.own.now c.requires.2
    c.args._front.now c.args._back.now c.in_ok-left.left c.in_ok-right.right
    (subst (IsGathered c.args.self.now c.args.first.now c.args._front.now) c.in_ok-left.was c.requires.3)
    (subst (IsGathered c.args.self.now c.args.second.now c.args._back.now) c.in_ok-right.was c.requires.4)

pub unreachable-requires : goal.unreachable-requires
unreachable-requires c =
    root_not_over c.args.self.now c.args.part.now c.args.first.now c.args.second.now c.args.own.now c.requires.2
    c.args._front.now c.args._back.now c.in_ok-left.left c.in_ok-right.right
    (subst (IsGathered c.args.self.now c.args.first.now c.args._front.now) c.in_ok-left.was c.requires.3)
    (subst (IsGathered c.args.self.now c.args.second.now c.args._back.now) c.in_ok-right.was c.requires.4) _ _ _ c.own_buffer-buffer.result
    c.own_buffer-buffer.ensures c.join_parts.result c.join_parts.ensures
    c.in-None.is

pub returns : goal.returns
returns c fronts backs cut ahead behind =
    gathered c.args.self.now c.args.part.now c.args.first.now c.args.second.now c.args.own.now cut
    c.args._front.now c.args._back.now c.in_ok-left.left c.in_ok-right.right
    (subst (IsGathered c.args.self.now c.args.first.now c.args._front.now) c.in_ok-left.was ahead)
    (subst (IsGathered c.args.self.now c.args.second.now c.args._back.now) c.in_ok-right.was behind) _ _ _ c.own_buffer-buffer.result
    c.own_buffer-buffer.ensures c.join_parts.result c.join_parts.ensures
    c.in-Some.root c.in-Some.is c.known_figure.result c.known_figure.ensures.below c.known_figure.ensures.residue_is
    c.known_figure.ensures.offset
