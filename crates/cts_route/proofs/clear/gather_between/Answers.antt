use Rattle.std.proofs.Common.{sym, subst}
use Rattle.cts_route.specs.declared.wall.Wall.{Wall}
use Rattle.cts_route.specs.Walls.{Overlaps}
use Rattle.cts_route.proofs.WallLists.{between_more, between_same, between_all}
use Rattle.cts_route.proofs.clear.gather_between.Goals as goal
use Rattle.cts_route.proofs.clear.gather_between.Goals.{then-reaches_between+in_ok-push, else-reaches_between}

pub loop-wall-preserved : goal.loop-wall-preserved
loop-wall-preserved c =
    elim c.if-reaches_between.branch [
      | then-reaches_between+in_ok-push w ↦
          between_more c.args.walls.now c.loop-wall.wall-index c.wall-item.result c.args.span.0 c.args.span.1 c.loop-wall.near.items c.if-reaches_between.near.items
          c.loop-wall-test.true c.loop-wall.invariant (let pushed = w.in_ok-push.ensures.items in let at = c.wall-item.is in cc)
      | else-reaches_between w ↦
          between_same c.args.walls.now c.loop-wall.wall-index c.wall-item.result c.args.span.0 c.args.span.1 c.loop-wall.near.items c.if-reaches_between.near.items
          c.loop-wall-test.true c.loop-wall.invariant
          (λ both. let e = w.if-reaches_between.false in let met = c.reaches_between.ensures.1 (subst (λ (v : Wall). Overlaps c.args.span.0 c.args.span.1 v.x1 v.x2) (sym c.wall-item.is) both) in cc)
          (cc)
    ]

pub returns : goal.returns
returns c =
    between_all c.args.walls.now c.loop-wall.wall-index c.args.span.0 c.args.span.1 c.loop-wall.near.items c.loop-wall-test.false c.loop-wall.invariant
