use Rattle.std.proofs.Common.{sym, subst, ◌∙◌}
use Rattle.std.specs.List.{All}
use Rattle.cts_block.specs.FreePoints.{IsHalfInDie, IsOpenToBuffers}
use Rattle.cts_trunk.specs.Road.{IsEven}
use Rattle.cts_trunk.proofs.Ahead.{point_in_range, half_in_range, in_die_along, even_there, free_there, blocked_there}
use Rattle.cts_trunk.proofs.look.see.Goals as goal

pub block_around-requires : goal.block_around-requires
block_around-requires c =
    let map = c.args.map.now in
    point_in_range map.die c.requires.road.die_is c.point_at-at.result
    (subst (IsHalfInDie map.die) (sym c.point_at-at.ensures)
    (in_die_along map.blocks map.die c.args.points.now c.requires.road c.args.distance c.requires.inside))

pub place_of-requires-clause-range : goal.place_of-requires-clause-range
place_of-requires-clause-range c =
    let map = c.args.map.now in
    half_in_range map.die c.requires.road.die_is c.point_at-at.result
    (subst (IsHalfInDie map.die) (sym c.point_at-at.ensures)
    (in_die_along map.blocks map.die c.args.points.now c.requires.road c.args.distance c.requires.inside))

pub place_of-requires-clause-even : goal.place_of-requires-clause-even
place_of-requires-clause-even c =
    let map = c.args.map.now in
    subst (λ p. IsEven p 0) (sym c.point_at-at.ensures)
    (even_there map.blocks map.die c.args.points.now c.requires.road c.args.distance c.requires.inside
    (c.requires.even.0) (c.requires.even.1))

pub returns-in-Some : goal.returns-in-Some
returns-in-Some c =
    let map = c.args.map.now in (
      c.blocked_until.ensures.further,
      λ e later short.
          blocked_there map.blocks map.die c.args.points.now e c.in-Some.block (c.in-Some.ensures.found.0)
          (c.blocked_until.ensures.inside e later short),
    )

pub returns-in-None : goal.returns-in-None
returns-in-None c =
    let map = c.args.map.now in (
      free_there map.blocks map.die c.args.points.now c.requires.road c.args.distance c.requires.inside
          (subst (λ p. All (IsOpenToBuffers p) map.blocks) c.point_at-at.ensures c.in-None.ensures.none),
      c.place_of.ensures ∙ c.point_at-at.ensures,
    )
