-- A route as the list of its points, in half nm: its start, the points where it turns, and its end.
use Rattle.std.specs.Prelude.{◌≡◌, ◌≢◌, ℕ, ◌+◌, ◌*◌, ◌⊎◌, Bool, ◌&&◌, ℤ, int_lt, ◌≤ℤ◌, List, [], ◌∷◌, ◌++◌, if◌then◌else◌}
use Rattle.std.specs.Bool.{beq}
use Rattle.cts_geom.specs.declared.points.Half.{Half}
use Rattle.cts_geom.specs.Points.{manhattan_of}
use Rattle.cts_tree.specs.declared.route.Route.{Route}

-- the points of a way with these corners
abbrev pub points_along : Half → List Half → Half → List Half
points_along start corners goal = start ∷ corners ++ goal ∷ []

-- the length of a way, in half nm: the sum of its steps
unfoldable pub path_length : List Half → ℕ
path_length [] = 0
path_length (p ∷ []) = 0
path_length (p ∷ q ∷ points) = manhattan_of p q + path_length (q ∷ points)

-- the step runs along one axis and is longer than 0
abbrev pub IsAxisStep : Half → Half → Type 0
IsAxisStep p q = ((p.x ≢ q.x) × (p.y ≡ q.y)) ⊎ ((p.x ≡ q.x) × (p.y ≢ q.y))

-- so do all steps of a way
unfoldable pub HasAxisSteps : List Half → Type 0
HasAxisSteps [] = Unit {0}
HasAxisSteps (p ∷ []) = Unit {0}
HasAxisSteps (p ∷ q ∷ points) = IsAxisStep p q × HasAxisSteps (q ∷ points)

-- from a over b to c a coordinate rises twice, falls twice or stands still twice
unfoldable pub keeps_on : ℤ → ℤ → ℤ → Bool
keeps_on a b c = beq (int_lt a b) (int_lt b c) && beq (int_lt b a) (int_lt c b)

-- the way from p over q to r goes on in one direction
unfoldable pub goes_on : Half → Half → Half → Bool
goes_on p q r = keeps_on p.x q.x r.x && keeps_on p.y q.y r.y

-- the points between the two ends at which the direction changes
unfoldable pub turns_of : List Half → List Half
turns_of [] = []
turns_of (p ∷ []) = []
turns_of (p ∷ q ∷ []) = []
turns_of (p ∷ q ∷ r ∷ points) =
    if goes_on p q r then turns_of (q ∷ r ∷ points) else (q ∷ turns_of (q ∷ r ∷ points))

-- c lies between a and b, or is one of them
abbrev pub IsWithin : ℤ → ℤ → ℤ → Type 0
IsWithin a b c = ((a ≤ℤ c) × (c ≤ℤ b)) ⊎ ((b ≤ℤ c) × (c ≤ℤ a))

-- r is a point of the segment from p to q, which runs along an axis
pub record IsOnSegment (p q r : Half) : Type 0 where
  pub x : IsWithin p.x q.x r.x
  pub y : IsWithin p.y q.y r.y

-- every point of a way has a property, those between its corners too
unfoldable pub AllAlong : (Half → Type 0) → List Half → Type 0
AllAlong P [] = Unit {0}
AllAlong P (p ∷ []) = P p
AllAlong P (p ∷ q ∷ points) = ((r : Half) → IsOnSegment p q r → P r) × AllAlong P (q ∷ points)

-- The route follows the way through these points: it has their turns as corners, and their length.
pub record Follows (route : Route) (points : List Half) : Type 0 where
  pub corners : route.corners ≡ turns_of points
  pub length : 2 * route.length ≡ path_length points
