-- What is prepared once for an instance.
use Rattle.std.specs.Prelude.{◌≡◌}
use Rattle.cts_block.specs.FreeMap.{Floorplan}
use Rattle.cts_route.specs.Grids.{IsGrid, IsGridOf}
use Rattle.cts_instance.specs.declared.parts.Parts.{Parts}
use Rattle.cts_instance.specs.Validity.{IsValid}
use Rattle.cts_embed.specs.declared.ground.Ground.{Ground}

-- the map of the free points of a valid instance
pub record IsFreeMapOf (parts : Parts) (free : Floorplan) : Type 0 where
  pub valid : IsValid parts
  pub blocks : free.blocks ≡ parts.blocks
  pub die : free.die ≡ parts.die

-- that map, and the grid of its routes
pub record IsGroundOf (parts : Parts) (ground : Ground) : Type 0 where
  pub free : IsFreeMapOf parts ground.free
  pub grid : IsGrid ground.grid
  pub grid_of : IsGridOf parts.blocks parts.die ground.grid
