-- What valid parts mean for the layers above.
use Rattle.std.specs.Prelude.{◌≡◌, ℤ, pos, ◌*ℤ◌, ◌≤ℤ◌, ◌↔◌, None, All}
use Rattle.cts_geom.specs.declared.points.Half.{Half}
use Rattle.cts_geom.specs.Coordinate.{IsCoordinate}
use Rattle.cts_units.specs.Limits.{max_coordinate}
use Rattle.cts_block.specs.FreePoints.{IsFreeForWire}
use Rattle.cts_instance.specs.declared.parts.Parts.{Parts}
use Rattle.cts_instance.specs.Validity.{IsValid}
use Rattle.cts_instance.specs.FirstFault.{first_fault}

abbrev pub ValidPartsHaveNoFault : Type 0
ValidPartsHaveNoFault = (parts : Parts) → (first_fault parts ≡ None) ↔ IsValid parts

-- the point (x, y) of whole nm, in half nm
abbrev pub half_at : ℤ → ℤ → Half
half_at x y = record { x = pos 2 *ℤ x; y = pos 2 *ℤ y }

-- a coordinate from 0 to 10^8 nm
pub record IsOnChip (z : ℤ) : Type 0 where
  pub low : pos 0 ≤ℤ z
  pub high : z ≤ℤ pos max_coordinate

pub record HasPlacesOnChip (parts : Parts) : Type 0 where
  pub source_x : IsOnChip parts.source_x
  pub source_y : IsOnChip parts.source_y
  pub sinks_x : All (λ sink. IsOnChip sink.x) parts.sinks
  pub sinks_y : All (λ sink. IsOnChip sink.y) parts.sinks

abbrev pub PlacesAreOnChip : Type 0
PlacesAreOnChip = (parts : Parts) → IsValid parts → HasPlacesOnChip parts

-- the source and the sinks are where geometry can reckon with them
pub record HasCoordinates (parts : Parts) : Type 0 where
  pub source_x : IsCoordinate parts.source_x
  pub source_y : IsCoordinate parts.source_y
  pub sinks_x : All (λ sink. IsCoordinate sink.x) parts.sinks
  pub sinks_y : All (λ sink. IsCoordinate sink.y) parts.sinks

abbrev pub PlacesAreCoordinates : Type 0
PlacesAreCoordinates = (parts : Parts) → IsValid parts → HasCoordinates parts

-- wires may reach the source and every sink
pub record HasFreePlaces (parts : Parts) : Type 0 where
  pub source : IsFreeForWire parts.blocks parts.die (half_at parts.source_x parts.source_y)
  pub sinks : All (λ sink. IsFreeForWire parts.blocks parts.die (half_at sink.x sink.y)) parts.sinks

abbrev pub PlacesAreFree : Type 0
PlacesAreFree = (parts : Parts) → IsValid parts → HasFreePlaces parts
