-- Words of the search for the nearest free point, over points of whole nm. The blocks that count are given as a set.
use Rattle.std.specs.Prelude.{◌≡◌, ◌^◌, ◌⊎◌, ℤ, pos, neg_ℤ, ◌+ℤ◌, ◌*ℤ◌, ◌≤ℤ◌, ◌<ℤ◌, ℕ, Bool, true, false, List, Contains}
use Rattle.cts_geom.specs.declared.points.Half.{Half}
use Rattle.cts_geom.specs.declared.bounds.Die.{Die}
use Rattle.cts_geom.specs.Coordinate.{IsCoordinate}
use Rattle.cts_geom.specs.Points.{manhattan_of}
use Rattle.cts_block.specs.declared.blocks.Block.{Block}
use Rattle.cts_block.specs.declared.blocks.Kind.{Kind}
use Rattle.cts_block.specs.declared.whole.Whole.{Whole}
use Rattle.cts_block.specs.declared.whole.Range.{Range}
use Rattle.cts_block.specs.declared.whole.Segment.{Segment}
use Rattle.cts_block.specs.declared.whole.Side.{Side}
use Rattle.cts_block.specs.declared.whole.Side.TheVariants.{Left, Right}
use Rattle.cts_block.specs.FreePoints.{IsHalfInDie, IsHalfInside, StopsWires}
use Rattle.cts_block.specs.NearestFree.{IsNoLater}

pub record IsWholeInRange (p : Whole) : Type 0 where
  pub x : IsCoordinate p.x
  pub y : IsCoordinate p.y

-- a place whose spot is in range
pub record IsPlaceInRange (from : Half) : Type 0 where
  pub x_low : neg_ℤ (pos (2 ^ 41)) ≤ℤ from.x
  pub x_high : from.x ≤ℤ pos (2 ^ 41)
  pub y_low : neg_ℤ (pos (2 ^ 41)) ≤ℤ from.y
  pub y_high : from.y ≤ℤ pos (2 ^ 41)

-- the point in half nm
abbrev pub half_of : Whole → Half
half_of p = record { x = pos 2 *ℤ p.x; y = pos 2 *ℤ p.y }

-- p is in the die and strictly inside none of the blocks that count
pub record IsFreeAmong (Counts : Block → Type 0) (die : Die) (p : Whole) : Type 0 where
  pub in_die : IsHalfInDie die (half_of p)
  pub clear : (block : Block) → Counts block → ¬ IsHalfInside block (half_of p)

-- p comes before q, or is q, by (distance, x, y)
abbrev pub IsAhead : Half → Whole → Whole → Type 0
IsAhead from p q = IsNoLater (manhattan_of from (half_of p)) p.x p.y (manhattan_of from (half_of q)) q.x q.y

-- Of the whole numbers of a range, the ones that are nearest to a number of halves from below and from above. They are
-- next to each other or one, and both are an end of the range where the halves lie beyond it.
pub record IsClosest (range : Range) (halves : ℤ) (closest : Range) : Type 0 where
  pub low_least : range.low ≤ℤ closest.low
  pub high_most : closest.high ≤ℤ range.high
  pub ordered : closest.low ≤ℤ closest.high
  pub adjacent : closest.high ≤ℤ (closest.low +ℤ pos 1)
  pub below : ((pos 2 *ℤ closest.low) ≤ℤ halves) ⊎ (closest.low ≡ range.low)
  pub above : (halves ≤ℤ (pos 2 *ℤ closest.high)) ⊎ (closest.high ≡ range.high)

-- the x and the y of the points of a die, in nm
abbrev pub columns_of : Die → Range
columns_of die = record { low = die.x1; high = die.x2 }

abbrev pub rows_of : Die → Range
rows_of die = record { low = die.y1; high = die.y2 }

-- the point lies on the vertical segment
pub record IsOn (segment : Segment) (p : Whole) : Type 0 where
  pub column : p.x ≡ segment.bottom.x
  pub low : segment.bottom.y ≤ℤ p.y
  pub high : p.y ≤ℤ segment.top.y

-- both ends of the segment lie in the die
pub record IsSegmentIn (die : Die) (segment : Segment) : Type 0 where
  pub bottom : IsHalfInDie die (half_of segment.bottom)
  pub top : IsHalfInDie die (half_of segment.top)

-- the point lies on the left or the right edge of the block
pub record IsOnEdge (block : Block) (p : Whole) : Type 0 where
  pub column : (p.x ≡ block.x1) ⊎ (p.x ≡ block.x2)
  pub low : block.y1 ≤ℤ p.y
  pub high : p.y ≤ℤ block.y2

-- the x of a block on one side
abbrev pub edge_of : Side → Block → ℤ
edge_of Left block = block.x1
edge_of Right block = block.x2

-- the point lies on that side of a block that counts, between its ends
pub record IsOnSide (Counts : Block → Type 0) (side : Side) (p : Whole) : Type 0 where
  pub block : Block
  pub counts : Counts block
  pub column : p.x ≡ edge_of side block
  pub low : block.y1 <ℤ p.y
  pub high : p.y <ℤ block.y2

-- of the columns that are nearest to a place, the one on that side, and whether a point lies beyond it
abbrev pub last_of : Side → Range → ℤ
last_of Left columns = columns.low
last_of Right columns = columns.high

abbrev pub IsBeyond : Side → Range → Whole → Type 0
IsBeyond Left columns p = p.x <ℤ columns.low
IsBeyond Right columns p = columns.high <ℤ p.x

-- how far an x is from the other side of the die
abbrev pub IsOffset : Side → Die → ℤ → ℕ → Type 0
IsOffset Left die x offset = die.x2 ≡ x +ℤ pos offset
IsOffset Right die x offset = x ≡ die.x1 +ℤ pos offset

-- the kind of a block counts where a buffer, or else wires alone, is to stand
abbrev pub Stops : Bool → Kind → Type 0
Stops true _ = Unit {0}
Stops false kind = StopsWires kind

-- the block is one of these, of a kind that counts
pub record IsObstacle (blocks : List Block) (buffered : Bool) (block : Block) : Type 0 where
  pub listed : Contains blocks block
  pub stops : Stops buffered block.kind
