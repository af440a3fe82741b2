-- Where a place moves that isn't free: to the nearest free point of whole nm. The definition ranges over all points of
-- the die. The order is this project's.
use Rattle.std.specs.Prelude.{◌≡◌, ℕ, ◌≤◌, ℤ, ◌≤ℤ◌, Bool, true, false, List, All}
use Rattle.cts_geom.specs.declared.points.Spot.{Spot}
use Rattle.cts_geom.specs.declared.bounds.Die.{Die}
use Rattle.cts_geom.specs.Coordinate.{IsCoordinate}
use Rattle.cts_geom.specs.Points.{spot_at, point_of, distance_of}
use Rattle.cts_block.specs.declared.blocks.Block.{Block}
use Rattle.cts_block.specs.FreePoints.{IsFreeForWire, IsFreeForBuffer}
use Rattle.cts_block.specs.Places.{IsInDie}

-- free for what is to stand there: a buffer, or else wires alone
abbrev pub IsFree : List Block → Die → Bool → Spot → Type 0
IsFree blocks die true p = IsFreeForBuffer blocks die (point_of p)
IsFree blocks die false p = IsFreeForWire blocks die (point_of p)

-- (distance, x, y) comes before another such triple, or is equal to it
pub record IsNoLater (distance : ℕ) (x y : ℤ) (distance' : ℕ) (x' y' : ℤ) : Type 0 where
  pub by_distance : distance ≤ distance'
  pub by_x : distance' ≡ distance → x ≤ℤ x'
  pub by_y : distance' ≡ distance → x' ≡ x → y ≤ℤ y'

-- Of all free points whose x and y are whole nm, p = (x, y) is the least by its distance from a place, then by x, then
-- by y.
pub record IsLeastFree (blocks : List Block) (die : Die) (buffered : Bool) (at p : Spot) : Type 0 where
  pub x : ℤ
  pub y : ℤ
  pub whole : p ≡ spot_at x y
  pub free : IsFree blocks die buffered p
  pub no_later : (x' y' : ℤ) → IsFree blocks die buffered (spot_at x' y')
      → IsNoLater (distance_of at p) x y (distance_of at (spot_at x' y')) x' y'

-- a place that is free stays, and every other one moves to the least free point
pub record IsNearestFree (blocks : List Block) (die : Die) (buffered : Bool) (at p : Spot) : Type 0 where
  pub stays : IsFree blocks die buffered at → p ≡ at
  pub moves : ¬ IsFree blocks die buffered at → IsLeastFree blocks die buffered at p

-- the corners are small enough, lower left and upper right
pub record IsDieInRange (die : Die) : Type 0 where
  pub x1 : IsCoordinate die.x1
  pub y1 : IsCoordinate die.y1
  pub x2 : IsCoordinate die.x2
  pub y2 : IsCoordinate die.y2
  pub x_ordered : die.x1 ≤ℤ die.x2
  pub y_ordered : die.y1 ≤ℤ die.y2

-- both corners of the block lie in the closed die
pub record LiesIn (die : Die) (block : Block) : Type 0 where
  pub from : IsInDie die block.x1 block.y1
  pub to : IsInDie die block.x2 block.y2

-- a place has no more than one nearest free point
abbrev pub NearestFreeIsOne : Type 0
NearestFreeIsOne =
    (blocks : List Block) (die : Die) (buffered : Bool) (at p q : Spot) → IsNearestFree blocks die buffered at p → IsNearestFree blocks die buffered at q → p ≡ q

-- where all blocks lie in the die, every place has a nearest free point
abbrev pub HasNearestFree : Type 0
HasNearestFree =
    (blocks : List Block) (die : Die) (buffered : Bool) (at : Spot) → die.x1 ≤ℤ die.x2 → die.y1 ≤ℤ die.y2 → All (LiesIn die) blocks
    → (p : Spot) × IsNearestFree blocks die buffered at p
