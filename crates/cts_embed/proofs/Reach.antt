-- The first places of a pair's parts are within the lengths of the upward pass.
use Rattle.std.proofs.Common.{◌≡◌, ℕ, ◌≤◌, sym, subst, arith}
use Rattle.cts_geom.specs.declared.points.Spot.{Spot}
use Rattle.cts_geom.specs.declared.regions.Region.{Region}
use Rattle.cts_geom.specs.Points.{distance_of}
use Rattle.cts_geom.specs.Regions.{IsNearest, IsInReach}
use Rattle.cts_merge.specs.declared.side.Finished.{Finished}
use Rattle.cts_up.specs.Plan.{IsFinished}
use Rattle.cts_up.proofs.Unique.{finished_one}
use Rattle.cts_embed.specs.Places.{IsFirstPlace}
use Rattle.cts_embed.specs.Laws.{PartsAreWithinReach}

-- the nearest point of a region is no further away than any of it
reach : (region : Region) (len : ℕ) (place first : Spot) → IsInReach region len place → IsNearest region place first
    → distance_of first place ≤ len
reach region len place first near is = omega (arith, near.near, is.nearest near.from near.inside)

pub parts_within_reach : PartsAreWithinReach
unfolding IsFinished
parts_within_reach params sinks l r n pair a b place first whole left right inside =
    let first_part : whole.0 ≡ a = finished_one params sinks l whole.0 a whole.2 left in
    let second_part : whole.1 ≡ b = finished_one params sinks r whole.1 b whole.3 right in
    let near = whole.4.region.sound place inside in (
      λ is. reach whole.0.side.region pair.ea place first (near.0)
          (subst (λ (f : Finished). IsFirstPlace f place first) (sym first_part) is),
      λ is. reach whole.1.side.region pair.eb place first (near.1)
          (subst (λ (f : Finished). IsFirstPlace f place first) (sym second_part) is),
    )
