use Rattle.std.proofs.Common.{refl, ◌∙◌, arith}
use Rattle.cts_route.proofs.table.Table.spread.Goals as goal

pub points-init : goal.points-init
points-init c = (c.requires.labels, refl)

pub points-preserved : goal.points-preserved
points-preserved c = (c.loop-direction.invariant.0, c.loop-direction.invariant.1 ∙ c.points.invariant.1)

pub loop-direction-init : goal.loop-direction-init
loop-direction-init c = (c.points.invariant.0, refl)

pub relax-requires-clause-labels : goal.relax-requires-clause-labels
relax-requires-clause-labels c = c.loop-direction.invariant.0

pub relax-requires-clause-from : goal.relax-requires-clause-from
relax-requires-clause-from c =
    omega (arith, c.loop-direction.invariant.0.size, c.points.invariant.0.size, c.if-from-len.false, c.len-in-points.ensures)

pub loop-direction-preserved : goal.loop-direction-preserved
loop-direction-preserved c = (c.relax.ensures.labels, c.relax.ensures.goal ∙ c.loop-direction.invariant.1)

pub returns : goal.returns
returns c = record { labels = c.points.invariant.0; goal = c.points.invariant.1 }
