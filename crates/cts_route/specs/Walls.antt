-- Blocks that stop wires, as rectangles in half nm.
use Rattle.std.specs.Prelude.{◌≡◌, ℤ, ◌≤ℤ◌, ◌<ℤ◌, List, All}
use Rattle.std.specs.Int.{int_min, int_max}
use Rattle.cts_geom.specs.declared.points.Half.{Half}
use Rattle.cts_block.specs.declared.blocks.Block.{Block}
use Rattle.cts_block.specs.FreePoints.{IsOpenToWires}
use Rattle.cts_tree.specs.Path.{IsOnSegment}
use Rattle.cts_route.specs.declared.wall.Wall.{Wall}
use Rattle.cts_route.specs.declared.walls.Walls.{Walls}

-- the point lies strictly inside the wall
pub record IsInWall (wall : Wall) (r : Half) : Type 0 where
  pub left : wall.x1 <ℤ r.x
  pub right : r.x <ℤ wall.x2
  pub below : wall.y1 <ℤ r.y
  pub above : r.y <ℤ wall.y2

-- the point lies strictly inside no wall
abbrev pub IsOutside : List Wall → Half → Type 0
IsOutside walls r = All (λ wall. IsInWall wall r → ⊥) walls

-- no point of the segment lies strictly inside a wall
unfoldable pub MissesWalls : List Wall → Half → Half → Type 0
MissesWalls walls p q = (r : Half) → IsOnSegment p q r → IsOutside walls r

-- the interval from low up to high and the open one between two edges that are some way apart have a common point
pub record Overlaps (low high from to : ℤ) : Type 0 where
  pub before : low <ℤ to
  pub after : from <ℤ high

-- the segment from low up to high has a point strictly inside the wall
pub record Crosses (wall : Wall) (low high : Half) : Type 0 where
  pub x : Overlaps low.x high.x wall.x1 wall.x2
  pub y : Overlaps low.y high.y wall.y1 wall.y2

-- of the walls, those that reach between two x
pub record AreWallsBetween (walls : List Wall) (low high : ℤ) (near : List Wall) : Type 0 where
  pub outside : (r : Half) → IsOutside walls r → IsOutside near r
  pub inside : (r : Half) → low ≤ℤ r.x → r.x ≤ℤ high → IsOutside near r → IsOutside walls r

-- low and high are the least and greatest coordinates of a segment
pub record IsSpan (p q low high : Half) : Type 0 where
  pub x1 : low.x ≡ int_min p.x q.x
  pub y1 : low.y ≡ int_min p.y q.y
  pub x2 : high.x ≡ int_max p.x q.x
  pub y2 : high.y ≡ int_max p.y q.y

-- the wall keeps out what the block keeps out of wires
pub record IsWallOf (block : Block) (wall : Wall) : Type 0 where
  pub outside : (r : Half) → IsOpenToWires r block → IsInWall wall r → ⊥
  pub open_there : (r : Half) → (IsInWall wall r → ⊥) → IsOpenToWires r block

-- the block keeps no wire out
pub record IsNoWall (block : Block) : Type 0 where
  pub open_there : (r : Half) → IsOpenToWires r block

-- the walls keep out what the blocks keep out of wires
pub record AreWallsOf (blocks : List Block) (walls : List Wall) : Type 0 where
  pub outside : (r : Half) → All (IsOpenToWires r) blocks → IsOutside walls r
  pub open_there : (r : Half) → IsOutside walls r → All (IsOpenToWires r) blocks

-- what is prepared keeps wires out of these blocks
abbrev pub KeepsOut : List Block → Walls → Type 0
KeepsOut blocks walls = AreWallsOf blocks walls.walls.items
