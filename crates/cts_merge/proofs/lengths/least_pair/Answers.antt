-- A gap too wide, or a snake on the side that is faster with all of the gap.
use Rattle.std.proofs.Common.{arith}
use Rattle.cts_merge.specs.LeastPair.{IsTooLong, Spans}
use Rattle.cts_merge.specs.Side.{delay_through}
use Rattle.cts_merge.proofs.SideDelays.{delay_rises}
use Rattle.cts_merge.proofs.Snakes.{for_error, snake_first, snake_second, long_snake_first, long_snake_second, long_gap}
use Rattle.cts_merge.proofs.lengths.least_pair.Goals as goal

pub returns-then-gap-clause-beyond : goal.returns-then-gap-clause-beyond
returns-then-gap-clause-beyond c =
    long_gap _ _ (delay_rises c.args.wire c.args.a.now c.requires.wire) (delay_rises c.args.wire c.args.b.now c.requires.wire)
    c.args.gap (omega arith)

pub returns-in_err-eb-clause-beyond : goal.returns-in_err-eb-clause-beyond
returns-in_err-eb-clause-beyond c =
    for_error c.from_residual.result
    (IsTooLong (delay_through c.args.wire c.args.a.now) (delay_through c.args.wire c.args.b.now) (Spans c.args.gap))
    (long_snake_first _ _ (delay_rises c.args.wire c.args.a.now c.requires.wire) (delay_rises c.args.wire c.args.b.now c.requires.wire)
    c.args.gap c.delay_through-alone_a.result c.delay_through-alone_a.ensures.value (omega arith) c.in_err-eb.ensures.beyond)

pub returns-then-delay_through-alone_a-clause-least :
    goal.returns-then-delay_through-alone_a-clause-least
returns-then-delay_through-alone_a-clause-least c =
    snake_first _ _ (delay_rises c.args.wire c.args.a.now c.requires.wire) (delay_rises c.args.wire c.args.b.now c.requires.wire)
    c.args.gap c.delay_through-alone_a.result _ c.delay_through-alone_a.ensures.value (omega arith) c.in_ok-eb.ensures.stretch

pub returns-in_err-ea-clause-beyond : goal.returns-in_err-ea-clause-beyond
returns-in_err-ea-clause-beyond c =
    for_error c.from_residual-in_err-ea.result
    (IsTooLong (delay_through c.args.wire c.args.a.now) (delay_through c.args.wire c.args.b.now) (Spans c.args.gap))
    (long_snake_second _ _ (delay_rises c.args.wire c.args.a.now c.requires.wire) (delay_rises c.args.wire c.args.b.now c.requires.wire)
    c.args.gap c.delay_through-alone_b.result c.delay_through-alone_b.ensures.value (omega arith) c.in_err-ea.ensures.beyond)

pub returns-then-delay_through-alone_b-clause-least :
    goal.returns-then-delay_through-alone_b-clause-least
returns-then-delay_through-alone_b-clause-least c =
    snake_second _ _ (delay_rises c.args.wire c.args.a.now c.requires.wire) (delay_rises c.args.wire c.args.b.now c.requires.wire)
    c.args.gap c.delay_through-alone_b.result _ c.delay_through-alone_b.ensures.value (omega arith) c.in_ok-ea.ensures.stretch
