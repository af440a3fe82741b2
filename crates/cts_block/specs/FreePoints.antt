-- Where wires and buffers may go. Points are in half nm, so the nm of dies and blocks are doubled.
use Rattle.std.specs.Prelude.{◌^◌, ℤ, pos, ◌*ℤ◌, ◌≤ℤ◌, ◌<ℤ◌, Bool, true, false, List, All}
use Rattle.cts_geom.specs.declared.points.Half.{Half}
use Rattle.cts_geom.specs.declared.bounds.Die.{Die}
use Rattle.cts_block.specs.declared.blocks.Block.{Block}
use Rattle.cts_block.specs.declared.blocks.Kind.{Kind}
use Rattle.cts_block.specs.declared.blocks.Kind.TheVariants.{Buffer}

-- the coordinates are small enough to be rounded up
pub record IsPointInRange (point : Half) : Type 0 where
  pub x : point.x ≤ℤ pos (2 ^ 41)
  pub y : point.y ≤ℤ pos (2 ^ 41)

-- halves of nm lie from low to high nm, both included
pub record IsBetween (low high halves : ℤ) : Type 0 where
  pub at_least : (pos 2 *ℤ low) ≤ℤ halves
  pub at_most : halves ≤ℤ (pos 2 *ℤ high)

-- halves of nm lie between low and high nm, both excluded
pub record IsStrictlyBetween (low high halves : ℤ) : Type 0 where
  pub above : (pos 2 *ℤ low) <ℤ halves
  pub below : halves <ℤ (pos 2 *ℤ high)

-- the point lies in the closed die
pub record IsHalfInDie (die : Die) (point : Half) : Type 0 where
  pub x : IsBetween die.x1 die.x2 point.x
  pub y : IsBetween die.y1 die.y2 point.y

-- the point lies strictly inside the block
pub record IsHalfInside (block : Block) (point : Half) : Type 0 where
  pub x : IsStrictlyBetween block.x1 block.x2 point.x
  pub y : IsStrictlyBetween block.y1 block.y2 point.y

-- a block of kind Buffer stops no wire, one of kind All does
abbrev pub StopsWires : Kind → Type 0
StopsWires Buffer = ⊥
StopsWires _ = Unit {0}

-- the same as a test
abbrev pub stops_wires : Kind → Bool
stops_wires Buffer = false
stops_wires _ = true

-- the block lets a wire through the point
abbrev pub IsOpenToWires : Half → Block → Type 0
IsOpenToWires point block = StopsWires block.kind → ¬ IsHalfInside block point

-- the point lies in the die and strictly inside no block of kind All
pub record IsFreeForWire (blocks : List Block) (die : Die) (point : Half) : Type 0 where
  pub in_die : IsHalfInDie die point
  pub clear : All (IsOpenToWires point) blocks

-- no buffer stands strictly inside a block of either kind
abbrev pub IsOpenToBuffers : Half → Block → Type 0
IsOpenToBuffers point block = ¬ IsHalfInside block point

-- the point lies in the die and strictly inside no block
pub record IsFreeForBuffer (blocks : List Block) (die : Die) (point : Half) : Type 0 where
  pub in_die : IsHalfInDie die point
  pub clear : All (IsOpenToBuffers point) blocks
