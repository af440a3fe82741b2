-- Points of whole nm, in the die and in blocks.
use Rattle.std.specs.Prelude.{ℤ, ◌≤ℤ◌, ◌<ℤ◌}
use Rattle.cts_geom.specs.declared.bounds.Die.{Die}
use Rattle.cts_block.specs.declared.blocks.Block.{Block}

-- the point lies in the die or on its edges
pub record IsInDie (die : Die) (x y : ℤ) : Type 0 where
  pub west : die.x1 ≤ℤ x
  pub east : x ≤ℤ die.x2
  pub south : die.y1 ≤ℤ y
  pub north : y ≤ℤ die.y2

-- the point lies in the block and off its edges
pub record IsInside (block : Block) (x y : ℤ) : Type 0 where
  pub west : block.x1 <ℤ x
  pub east : x <ℤ block.x2
  pub south : block.y1 <ℤ y
  pub north : y <ℤ block.y2
