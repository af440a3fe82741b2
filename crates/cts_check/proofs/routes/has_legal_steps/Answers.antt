use Rattle.cts_check.proofs.LegalSteps.{step_of_way, decides_next, last_step}
use Rattle.cts_check.proofs.routes.has_legal_steps.Goals as goal

pub returns-then-not-is_legal_step : goal.returns-then-not-is_legal_step
returns-then-not-is_legal_step c = λ blocks keeps. (
  (λ never. cc),
  (λ way.
      let step = step_of_way blocks c.args.die.now c.args.from c.args.corners.now c.args.to c.loop-corner.corner-index c.loop-corner.start
      (c.loop-corner.invariant.decides blocks keeps) _ c.loop-corner-test.true way in
      let yes = (c.is_legal_step.ensures blocks keeps).1 step in
      let no = c.if-not-is_legal_step.true in cc),
)

pub loop-corner-preserved : goal.loop-corner-preserved
loop-corner-preserved c = record {
  seen = c.requires.corners c.loop-corner.corner-index _ c.loop-corner-test.true;
  decides = λ blocks keeps.
      decides_next blocks c.args.die.now c.args.from c.args.corners.now c.args.to c.loop-corner.corner-index c.loop-corner.start
      (c.loop-corner.invariant.decides blocks keeps) _ c.loop-corner-test.true
      ((c.is_legal_step.ensures blocks keeps).0 c.if-not-is_legal_step.false);
}

pub returns : goal.returns
returns c = λ blocks keeps.
    let last = last_step blocks c.args.die.now c.args.from c.args.corners.now c.args.to c.loop-corner.corner-index c.loop-corner.start
    (c.loop-corner.invariant.decides blocks keeps) c.loop-corner-test.false in
    let step = c.is_legal_step-2.ensures blocks keeps in
    ((λ test. last.0 (step.0 test)), (λ way. step.1 (last.1 way)))
