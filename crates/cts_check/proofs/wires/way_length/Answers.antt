use Rattle.std.proofs.Common.{arith}
use Rattle.cts_check.proofs.LegalSteps.{adds_up_next, adds_up_last}
use Rattle.cts_check.proofs.wires.way_length.Goals as goal

pub loop-corner-preserved : goal.loop-corner-preserved
loop-corner-preserved c =
    let before = c.loop-corner.invariant in
    record {
      seen = c.requires.corners c.loop-corner.corner-index _ c.loop-corner-test.true;
      bound = omega (arith, before.bound, c.step_length-length.ensures.bound);
      adds_up = adds_up_next c.args.from c.args.corners.now c.args.to c.loop-corner.corner-index c.loop-corner.start _ c.loop-corner.length
          c.step_length-length.result c.loop-corner-test.true c.step_length-length.ensures.manhattan before.adds_up;
    }

pub returns : goal.returns
returns c =
    adds_up_last c.args.from c.args.corners.now c.args.to c.loop-corner.corner-index c.loop-corner.start c.loop-corner.length
    c.step_length.result c.loop-corner-test.false c.step_length.ensures.manhattan c.loop-corner.invariant.adds_up
