-- Blocks in a die, prepared for many look-ups.
use Rattle.std.specs.Prelude.{false, List, All, Contains}
use Rattle.cts_geom.specs.declared.bounds.Die.{Die}
use Rattle.cts_block.specs.declared.blocks.Block.{Block}
use Rattle.cts_block.specs.declared.index.Index.{Index}
use Rattle.cts_block.specs.NearestFree.{IsDieInRange, LiesIn}
use Rattle.cts_block.specs.Search.{IsObstacle}
use Rattle.cts_block.specs.Index.{IsIndex}

-- blocks, and the die in which they lie
pub record Floorplan : Type 0 where
  pub blocks : List Block
  pub die : Die

-- an index of all blocks, and one of those that stop wires
pub record IsFreeMap (die : Die) (for_wires for_buffers : Index) : Type 0 where
  pub die_range : IsDieInRange die
  pub lie : All (LiesIn die) for_buffers.raster
  pub wires_sound : (block : Block) → Contains for_wires.raster block → IsObstacle for_buffers.raster false block
  pub wires_complete : (block : Block) → IsObstacle for_buffers.raster false block → Contains for_wires.raster block
  pub wires : IsIndex die for_wires
  pub buffers : IsIndex die for_buffers
