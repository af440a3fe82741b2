use Rattle.std.proofs.Common.{◌≡◌, ◌↔◌, subst, arith}
use Rattle.std.proofs.lemmas.Int.{ints}
use Rattle.cts_geom.specs.declared.points.Spot.{Spot}
use Rattle.cts_geom.specs.Points.{spot_at}
use Rattle.cts_geom.specs.Regions.{ContainsSpot}
use Rattle.cts_up.specs.declared.site.Site.{Site}
use Rattle.cts_embed.proofs.Stands.{corner_in_range, corner_is}
use Rattle.cts_embed.proofs.placing.leaf_place.Goals as goal

pub returns-clause-place : goal.returns-clause-place
returns-clause-place c sink finished is leaf =
    corner_is c.args.leaf.now.region (spot_at sink.x sink.y)
    (subst (λ (site : Site). (p : Spot) → ContainsSpot site.region p ↔ (p ≡ spot_at sink.x sink.y)) is leaf.region)
    _ _ (omega (arith, ints)) (omega (arith, ints))

pub returns-clause-in_range : goal.returns-clause-in_range
returns-clause-in_range c =
    corner_in_range c.args.leaf.now.region c.requires _ _ (omega (arith, ints)) (omega (arith, ints))
