use Rattle.std.proofs.Common.{refl, arith}
use Rattle.cts_route.proofs.WaysDown.{not_walked, walked_straight, walked_turned, walked_down, settled_on}
use Rattle.cts_route.proofs.walk.corners_down.Goals as goal

pub steps-init : goal.steps-init
steps-init c =
    not_walked c.args.xs.now c.args.ys.now c.args.graph.now c.args.table.now.labels.items c.args.start c.args.table.now.goal c.new-corners.result.items
    (omega arith) c.requires.reached c.new-corners.ensures.items

pub steps-preserved-in_ok-push : goal.steps-preserved-in_ok-push
steps-preserved-in_ok-push c =
    walked_turned c.args.xs.now c.args.ys.now c.args.graph.now c.args.table.now.labels.items c.args.start c.args.table.now.goal c.steps.cell c.steps.last
    c.steps.corners.items c.push.new.self.items c.point_at.result c.in-Some.fall.direction c.in-Some.fall.to c.in-Some.fall.len
    c.steps.invariant c.in-Some.ensures.some (let inside = c.in-Some.ensures.inside in omega (arith, inside))
    (c.requires.ahead.ahead c.in-Some.fall.direction c.steps.cell c.in-Some.fall.to c.in-Some.fall.len c.in-Some.ensures.some.fall.step)
    c.if-turns.ensures.turned c.point_at.ensures c.in_ok-push.ensures.items

pub steps-preserved : goal.steps-preserved
steps-preserved c =
    walked_straight c.args.xs.now c.args.ys.now c.args.graph.now c.args.table.now.labels.items c.args.start c.args.table.now.goal c.steps.cell c.steps.last
    c.steps.corners.items c.steps.corners.items c.in-Some.fall.direction c.in-Some.fall.to c.in-Some.fall.len
    c.steps.invariant c.in-Some.ensures.some (let inside = c.in-Some.ensures.inside in omega (arith, inside))
    (c.requires.ahead.ahead c.in-Some.fall.direction c.steps.cell c.in-Some.fall.to c.in-Some.fall.len c.in-Some.ensures.some.fall.step)
    c.if-turns.ensures.straight refl

pub steps-smaller : goal.steps-smaller
steps-smaller c =
    let whole = c.in-Some.ensures.some.fall.whole in
    let some = c.in-Some.ensures.some.fall.step.positive in
    omega (arith, whole, some)

pub steps-smaller-in_ok-push : goal.steps-smaller-in_ok-push
steps-smaller-in_ok-push c =
    let whole = c.in-Some.ensures.some.fall.whole in
    let some = c.in-Some.ensures.some.fall.step.positive in
    omega (arith, whole, some)

pub returns : goal.returns
returns c =
    walked_down c.args.xs.now c.args.ys.now c.args.graph.now c.args.table.now c.args.start c.steps.cell c.steps.last c.steps.corners.items
    c.steps.invariant c.in_default.ensures.none

pub first_fall-requires-clause-settled : goal.first_fall-requires-clause-settled
first_fall-requires-clause-settled c =
    settled_on c.args.graph.now c.args.table.now.labels.items c.args.start c.steps.cell c.requires.settled c.steps.invariant.below
