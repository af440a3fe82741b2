use Rattle.std.proofs.Common.{◌+◌, ◌<◌, length, pos, subst, sym, arith}
use Rattle.cts_geom.specs.declared.points.Half.{Half}
use Rattle.cts_trunk.specs.Road.{IsCursor}
use Rattle.cts_trunk.proofs.Cursors.{cursor_at, next_cursor, at_end}
use Rattle.cts_trunk.proofs.way.advance.Goals as goal

pub loop-segment-preserved : goal.loop-segment-preserved
loop-segment-preserved c =
    let e : Half = record { x = pos 0; y = pos 0 } in
    let points = c.args.points.now in
    let k = c.loop-segment.segment in
    let within : k + 1 < length points = omega arith in
    record {
      cursor = subst (λ long. IsCursor points (cursor_at (k + 1) (c.loop-segment.begin + long))) (sym c.segment_length.ensures.value)
          (next_cursor points k e within c.loop-segment.begin c.loop-segment.invariant.cursor);
      here = omega arith;
    }

pub unreachable-requires : goal.unreachable-requires
unreachable-requires c =
    omega (
      arith,
      at_end c.args.points.now c.loop-segment.segment c.loop-segment.begin c.loop-segment.invariant.cursor (omega arith),
    )
