-- The laws of spots and their distance.
use Rattle.std.specs.Prelude.{◌≡◌, ◌*◌}
use Rattle.cts_geom.specs.declared.points.Spot.{Spot}
use Rattle.cts_geom.specs.Points.{point_of, manhattan_of, distance_of}

-- half nm on both sides
abbrev pub DistanceIsManhattan : Type 0
DistanceIsManhattan = (a b : Spot) → 2 * distance_of a b ≡ manhattan_of (point_of a) (point_of b)

abbrev pub SpotsAreApart : Type 0
SpotsAreApart = (a b : Spot) → point_of a ≡ point_of b → a ≡ b
