use Rattle.std.proofs.Common.{arith}
use Rattle.cts_list.proofs.Distinct.{at_most_from_distinct_below}
use Rattle.cts_rows_shared.proofs.deals.draw_past.Goals as goal

pub unreachable-requires : goal.unreachable-requires
unreachable-requires c =
    let kept = c.loop.invariant in
    omega (arith, at_most_from_distinct_below _ c.args.count kept.3 kept.4, c.requires.few, c.loop-test.false, kept.2)
