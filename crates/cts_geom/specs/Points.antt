-- Points in the plane, in nm as spots and in half nm as pairs (x, y), and how far apart they are.
use Rattle.std.specs.Prelude.{ℕ, ◌+◌, max, ℤ, ◌+ℤ◌, ◌-ℤ◌}
use Rattle.cts_geom.specs.declared.points.Spot.{Spot}
use Rattle.cts_geom.specs.declared.points.Half.{Half}
use Rattle.cts_geom.specs.Coordinate.{IsCoordinate, int_abs_diff}

pub record IsSpotInRange (p : Spot) : Type 0 where
  pub u : IsCoordinate p.u
  pub v : IsCoordinate p.v

pub record IsHalfInRange (p : Half) : Type 0 where
  pub x : IsCoordinate p.x
  pub y : IsCoordinate p.y

-- the spot of the point (x, y)
abbrev pub spot_at : ℤ → ℤ → Spot
spot_at x y = record { u = x +ℤ y; v = x -ℤ y }

-- the point of a spot in half nm: twice its x is u + v, and twice its y is u - v
abbrev pub point_of : Spot → Half
point_of p = record { x = p.u +ℤ p.v; y = p.u -ℤ p.v }

-- the Manhattan distance of two points, |dx| + |dy|, in half nm
abbrev pub manhattan_of : Half → Half → ℕ
manhattan_of a b = int_abs_diff a.x b.x + int_abs_diff a.y b.y

-- the distance of two spots in nm, the greater of |du| and |dv|
unfoldable pub distance_of : Spot → Spot → ℕ
distance_of a b = max (int_abs_diff a.u b.u) (int_abs_diff a.v b.v)
