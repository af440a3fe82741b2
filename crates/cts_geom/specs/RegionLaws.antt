-- The laws of regions.
use Rattle.std.specs.Prelude.{◌≡◌, ℕ, ◌+◌, ◌↔◌, ◌⊎◌, ℤ, ◌≤ℤ◌}
use Rattle.cts_geom.specs.declared.points.Half.{Half}
use Rattle.cts_geom.specs.declared.points.Spot.{Spot}
use Rattle.cts_geom.specs.declared.regions.Region.{Region}
use Rattle.cts_geom.specs.Points.{point_of}
use Rattle.cts_geom.specs.Regions.{ContainsSpot, IsGap, gap_of, IsMeet, IsNearest, nearest_of}

-- a region is known by its spots
abbrev pub RegionsAreSets : Type 0
RegionsAreSets = (a b : Region) → ((p : Spot) → ContainsSpot a p ↔ ContainsSpot b p) → a ≡ b

-- two regions have one gap, which is that of their numbers
abbrev pub GapIsLeast : Type 0
GapIsLeast = (a b : Region) (gap : ℕ) → IsGap a b gap ↔ (gap ≡ gap_of a b)

-- a region has one nearest point to a spot, which is that of its numbers
abbrev pub NearestIsOne : Type 0
NearestIsOne = (region : Region) (to p : Spot) → IsNearest region to p ↔ (p ≡ nearest_of region to)

-- the two lengths are the gap together, or one of them is 0
abbrev pub IsTight : Region → ℕ → Region → ℕ → Type 0
IsTight a ea b eb = (ea + eb ≡ gap_of a b) ⊎ ((ea ≡ 0) ⊎ (eb ≡ 0))

-- a point in half nm lies in the closed box
pub record IsInBox (x1 x2 y1 y2 : ℤ) (p : Half) : Type 0 where
  pub left : x1 ≤ℤ p.x
  pub right : p.x ≤ℤ x2
  pub bottom : y1 ≤ℤ p.y
  pub top : p.y ≤ℤ y2

-- all points of the region lie in the closed box
abbrev pub IsBoxed : ℤ → ℤ → ℤ → ℤ → Region → Type 0
IsBoxed x1 x2 y1 y2 region = (p : Spot) → ContainsSpot region p → IsInBox x1 x2 y1 y2 (point_of p)

-- A region that is joined over a gap stays in the box of the two. A point of it lies on a shortest path between a
-- point of each, so each of its coordinates lies between theirs; or it lies in one of the two.
abbrev pub MeetStaysInBox : Type 0
MeetStaysInBox =
    (x1 x2 y1 y2 : ℤ) (a : Region) (ea : ℕ) (b : Region) (eb : ℕ) (region : Region) → IsMeet a ea b eb region → IsTight a ea b eb → IsBoxed x1 x2 y1 y2 a → IsBoxed x1 x2 y1 y2 b → IsBoxed x1 x2 y1 y2 region

-- a segment along one of the two rotated axes, or a point
abbrev pub IsSegment : Region → Type 0
IsSegment region = (region.u1 ≡ region.u2) ⊎ (region.v1 ≡ region.v2)

abbrev pub MeetIsSegment : Type 0
MeetIsSegment =
    (a : Region) (ea : ℕ) (b : Region) (eb : ℕ) (region : Region) → IsMeet a ea b eb region → IsTight a ea b eb → IsSegment a → IsSegment b → IsSegment region
