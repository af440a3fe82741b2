-- Of the last place at which the first side is not slower and the next one, the nearer is the least pair.
use Rattle.std.proofs.Common.{◌+◌, ◌-◌, arith}
use Rattle.cts_merge.specs.Side.{delay_through}
use Rattle.cts_merge.proofs.SideDelays.{delay_rises}
use Rattle.cts_merge.proofs.MergePairs.{spans_low, spans_high}
use Rattle.cts_merge.proofs.Taps.{taps_of}
use Rattle.cts_merge.proofs.lengths.tapped.Goals as goal

pub returns-then-at_low-at_next-clause-least : goal.returns-then-at_low-at_next-clause-least
returns-then-at_low-at_next-clause-least c =
    let f = delay_through c.args.wire c.args.a.now in
    let g = delay_through c.args.wire c.args.b.now in
    spans_low f g (delay_rises c.args.wire c.args.a.now c.requires.wire) (delay_rises c.args.wire c.args.b.now c.requires.wire)
    c.args.gap c.tap-low.result (c.args.gap - (c.tap-low.result + 1)) (omega arith) (omega arith)
    (taps_of c.args.wire c.args.a.now c.args.b.now c.args.gap c.tap-low.result c.requires.fast_a c.requires.fast_b c.tap-low.ensures)
    (omega arith)

pub returns-clause-least : goal.returns-clause-least
returns-clause-least c =
    let f = delay_through c.args.wire c.args.a.now in
    let g = delay_through c.args.wire c.args.b.now in
    spans_high f g (delay_rises c.args.wire c.args.a.now c.requires.wire) (delay_rises c.args.wire c.args.b.now c.requires.wire)
    c.args.gap c.tap-low.result (c.args.gap - (c.tap-low.result + 1)) (omega arith) (omega arith)
    (taps_of c.args.wire c.args.a.now c.args.b.now c.args.gap c.tap-low.result c.requires.fast_a c.requires.fast_b c.tap-low.ensures)
    (omega arith)
