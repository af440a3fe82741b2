-- What the calls take: coordinates of at most 2^40 nm in size, and 64 blocks that stop wires.
use Rattle.std.specs.Prelude.{◌≤◌, List, All, count_by}
use Rattle.cts_geom.specs.Coordinate.{IsCoordinate}
use Rattle.cts_block.specs.declared.blocks.Block.{Block}
use Rattle.cts_block.specs.FreePoints.{stops_wires}

pub record IsBlockInRange (block : Block) : Type 0 where
  pub x1 : IsCoordinate block.x1
  pub x2 : IsCoordinate block.x2
  pub y1 : IsCoordinate block.y1
  pub y2 : IsCoordinate block.y2

pub record AreBlocksInRange (blocks : List Block) : Type 0 where
  pub each : All IsBlockInRange blocks
  pub count : count_by (λ block. stops_wires block.kind) blocks ≤ 64
