-- The spots of a region, how far apart two regions are, and where they can be joined.
use Rattle.std.specs.Prelude.{◌≡◌, ℕ, ◌≤◌, max, pos, ◌-ℤ◌, ◌≤ℤ◌}
use Rattle.std.specs.Int.{int_max}
use Rattle.cts_geom.specs.declared.points.Spot.{Spot}
use Rattle.cts_geom.specs.declared.regions.Region.{Region}
use Rattle.cts_geom.specs.Coordinate.{IsCoordinate, interval_gap}
use Rattle.cts_geom.specs.Points.{distance_of}

pub record IsRegionInRange (region : Region) : Type 0 where
  pub u1 : IsCoordinate region.u1
  pub u2 : IsCoordinate region.u2
  pub v1 : IsCoordinate region.v1
  pub v2 : IsCoordinate region.v2

-- the spot is a point of the region
pub record ContainsSpot (region : Region) (p : Spot) : Type 0 where
  pub u_low : region.u1 ≤ℤ p.u
  pub u_high : p.u ≤ℤ region.u2
  pub v_low : region.v1 ≤ℤ p.v
  pub v_high : p.v ≤ℤ region.v2

-- the spot is at most a length from some point of the region
pub record IsInReach (region : Region) (len : ℕ) (p : Spot) : Type 0 where
  pub from : Spot
  pub inside : ContainsSpot region from
  pub near : distance_of from p ≤ len

-- the least distance of a point of a and a point of b
pub record IsGap (a b : Region) (gap : ℕ) : Type 0 where
  pub bound : (p q : Spot) → ContainsSpot a p → ContainsSpot b q → gap ≤ distance_of p q
  pub from : Spot
  pub to : Spot
  pub from_inside : ContainsSpot a from
  pub to_inside : ContainsSpot b to
  pub reached : distance_of from to ≡ gap

-- the gap by the four numbers: the greater of the gaps in u and in v
unfoldable pub gap_of : Region → Region → ℕ
gap_of a b = max (interval_gap a.u1 a.u2 b.u1 b.u2) (interval_gap a.v1 a.v2 b.v1 b.v2)

-- The region has exactly the spots within ea of a and within eb of b: the merging region of deferred-merge
-- embedding (Chao, Hsu, Ho 1992), in whole spots.
pub record IsMeet (a : Region) (ea : ℕ) (b : Region) (eb : ℕ) (region : Region) : Type 0 where
  pub sound : (p : Spot) → ContainsSpot region p → IsInReach a ea p × IsInReach b eb p
  pub complete : (p : Spot) → IsInReach a ea p → IsInReach b eb p → ContainsSpot region p

-- p comes before q by u, and where these are equal by v, or is q
pub record IsNoLater (p q : Spot) : Type 0 where
  pub u : p.u ≤ℤ q.u
  pub v : p.u ≡ q.u → p.v ≤ℤ q.v

-- the point of the region that is nearest to a spot, the least (u, v) on ties
pub record IsNearest (region : Region) (to p : Spot) : Type 0 where
  pub inside : ContainsSpot region p
  pub nearest : (q : Spot) → ContainsSpot region q → distance_of p to ≤ distance_of q to
  pub first : (q : Spot) → ContainsSpot region q → distance_of q to ≡ distance_of p to → IsNoLater p q

-- the nearest point by the four numbers: the least u and v that are within the gap of the spot
unfoldable pub nearest_of : Region → Spot → Spot
nearest_of region to =
    let len = max (interval_gap region.u1 region.u2 to.u to.u) (interval_gap region.v1 region.v2 to.v to.v) in
    record { u = int_max region.u1 (to.u -ℤ pos len); v = int_max region.v1 (to.v -ℤ pos len) }
