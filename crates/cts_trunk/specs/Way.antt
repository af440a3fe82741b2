-- The points of a way of segments along the axes, told by their distance from its start, in half nm.
use Rattle.std.specs.Prelude.{ℕ, ◌-◌, ℤ, pos, ◌+ℤ◌, ◌-ℤ◌, int_lt, nat_lt, List, [], ◌∷◌, if◌then◌else◌}
use Rattle.cts_geom.specs.declared.points.Half.{Half}
use Rattle.cts_geom.specs.Points.{manhattan_of}

-- the coordinate at this distance from a on the way to b
abbrev pub toward : ℤ → ℤ → ℕ → ℤ
toward a b d = if int_lt a b then a +ℤ pos d else (if int_lt b a then a -ℤ pos d else a)

-- the point at this distance from p on the segment to q, which runs along an axis
abbrev pub step_to : Half → Half → ℕ → Half
step_to p q d = record { x = toward p.x q.x d; y = toward p.y q.y d }

-- The point of a way at this distance from its start. A point where the way turns begins the next segment.
unfoldable pub point_along : List Half → ℕ → Half
point_along [] d = record { x = pos 0; y = pos 0 }
point_along (p ∷ []) d = p
point_along (p ∷ q ∷ points) d =
    if nat_lt d (manhattan_of p q) then step_to p q d else point_along (q ∷ points) (d - manhattan_of p q)
