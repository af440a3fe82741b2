use Rattle.std.proofs.Common.{arith}
use Rattle.cts_picture.specs.Dots.{seen_dot}
use Rattle.cts_picture.proofs.Ways.{way_over, way_to_end}
use Rattle.cts_picture.proofs.wire.way_length.Goals as goal

pub loop-corner-preserved : goal.loop-corner-preserved
loop-corner-preserved c =
    let over = way_over (seen_dot c.loop-corner.at) c.args.corners.now c.loop-corner.corner-index _
    (seen_dot c.dot_of-next.result) (seen_dot c.args.lower) c.loop-corner-test.true c.dot_of-next.ensures.seen in (
      omega (arith, c.loop-corner.invariant.0, c.distance-length.ensures.same, over),
      omega (arith, c.loop-corner.invariant.1, c.distance-length.ensures.bound),
      c.dot_of-next.ensures.dot,
    )

pub returns : goal.returns
returns c =
    let ends = way_to_end (seen_dot c.loop-corner.at) c.args.corners.now c.loop-corner.corner-index (seen_dot c.args.lower)
    (omega (arith, c.loop-corner-test.false)) in
    omega (arith, c.loop-corner.invariant.0, c.distance.ensures.same, ends)
