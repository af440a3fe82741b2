-- The points of a grid by number, column after column, and the lengths of the steps between them.
use Rattle.std.specs.Prelude.{◌≡◌, ℕ, ◌+◌, ◌*◌, ◌^◌, ◌/◌, ◌%◌, ◌<◌, ◌≤◌, ◌⊎◌, ℤ, pos, neg_ℤ, ◌-ℤ◌, ◌≤ℤ◌, List, length, slice_index}
use Rattle.cts_geom.specs.declared.points.Half.{Half}
use Rattle.cts_geom.specs.Points.{manhattan_of}
use Rattle.cts_route.specs.declared.graph.Graph.{Graph}
use Rattle.cts_route.specs.declared.wall.Wall.{Wall}
use Rattle.cts_route.specs.LineLists.{line_at, IsAscending}
use Rattle.cts_route.specs.Walls.{IsOutside, MissesWalls}

-- the point with this number
unfoldable pub point_at : List ℤ → List ℤ → ℕ → Half
point_at xs ys c = record { x = line_at xs (c / length ys); y = line_at ys (c % length ys) }

-- q is neither left of p nor below it, nor far away
pub record AreOrdered (p q : Half) : Type 0 where
  pub x : p.x ≤ℤ q.x
  pub y : p.y ≤ℤ q.y
  pub width : (q.x -ℤ p.x) ≤ℤ pos (2 ^ 42)
  pub height : (q.y -ℤ p.y) ≤ℤ pos (2 ^ 42)

-- the step between two points has its length where it misses the walls, and else none
pub record IsStepLength (walls : List Wall) (p q : Half) (len : ℕ) : Type 0 where
  pub misses : 0 < len → MissesWalls walls p q
  pub whole : MissesWalls walls p q → len ≡ manhattan_of p q

-- the step to the next column, if there is one
pub record IsEastLength (walls : List Wall) (xs ys : List ℤ) (c len : ℕ) : Type 0 where
  pub there : c + length ys < length xs * length ys → IsStepLength walls (point_at xs ys c) (point_at xs ys (c + length ys)) len
  pub inside : 0 < len → c + length ys < length xs * length ys

-- the step to the next point in the column, if there is one
pub record IsNorthLength (walls : List Wall) (xs ys : List ℤ) (c len : ℕ) : Type 0 where
  pub there : c % length ys + 1 < length ys → IsStepLength walls (point_at xs ys c) (point_at xs ys (c + 1)) len
  pub inside : 0 < len → c % length ys + 1 < length ys

-- the lengths of the steps from the first points on
pub record AreEasts (walls : List Wall) (xs ys : List ℤ) (upto : ℕ) (lens : List ℕ) : Type 0 where
  pub count : length lens ≡ upto
  pub each : (c : ℕ) → c < upto → IsEastLength walls xs ys c (slice_index lens c)

pub record AreNorths (walls : List Wall) (xs ys : List ℤ) (upto : ℕ) (lens : List ℕ) : Type 0 where
  pub count : length lens ≡ upto
  pub each : (c : ℕ) → c < upto → IsNorthLength walls xs ys c (slice_index lens c)

pub record IsGraphUpTo (walls : List Wall) (xs ys : List ℤ) (upto : ℕ) (graph : Graph) : Type 0 where
  pub height : graph.height ≡ length ys
  pub easts : AreEasts walls xs ys upto graph.east.items
  pub norths : AreNorths walls xs ys upto graph.north.items

-- on a column's line, or between it and the next one
pub record IsBeside (xs : List ℤ) (column : ℕ) (x : ℤ) : Type 0 where
  pub low : line_at xs column ≤ℤ x
  pub high : (x ≤ℤ line_at xs column) ⊎ ((column + 1 < length xs) × (x ≤ℤ line_at xs (column + 1)))

-- the least and the greatest x of the steps from a column
pub record IsSpanOf (xs : List ℤ) (column : ℕ) (low high : ℤ) : Type 0 where
  pub from : low ≡ line_at xs column
  pub to : ((column + 1 < length xs) × (high ≡ line_at xs (column + 1))) ⊎ ((length xs ≤ column + 1) × (high ≡ line_at xs column))

-- of the walls, those that the steps from a column can meet
pub record AreWallsBeside (walls : List Wall) (xs : List ℤ) (column : ℕ) (near : List Wall) : Type 0 where
  pub outside : (r : Half) → IsOutside walls r → IsOutside near r
  pub inside : (r : Half) → IsBeside xs column r.x → IsOutside near r → IsOutside walls r

-- the steps of the grid with these lines
pub record IsGraphOf (walls : List Wall) (xs ys : List ℤ) (graph : Graph) : Type 0 where
  pub height : graph.height ≡ length ys
  pub easts : length graph.east.items ≡ length xs * length ys
  pub norths : length graph.north.items ≡ length xs * length ys
  pub east : (c : ℕ) → c < length xs * length ys → IsEastLength walls xs ys c (slice_index graph.east.items c)
  pub north : (c : ℕ) → c < length xs * length ys → IsNorthLength walls xs ys c (slice_index graph.north.items c)

-- all lines are at most 2^41 half nm from 0, and there are at most 132
pub record AreShortLines (lines : List ℤ) : Type 0 where
  pub ascending : IsAscending lines
  pub count : length lines ≤ 132
  pub low : (k : ℕ) → k < length lines → neg_ℤ (pos (2 ^ 41)) ≤ℤ line_at lines k
  pub high : (k : ℕ) → k < length lines → line_at lines k ≤ℤ pos (2 ^ 41)

-- the point has this number
pub record Stands (xs ys : List ℤ) (p : Half) (c : ℕ) : Type 0 where
  pub inside : c < length xs * length ys
  pub at : point_at xs ys c ≡ p
