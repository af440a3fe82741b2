-- The places of valid parts, in the geometry and among the blocks.
use Rattle.std.proofs.Common.{◌^◌, ℤ, pos, ◌*ℤ◌, ◌≤ℤ◌, ◌<ℤ◌, arith}
use Rattle.std.proofs.lemmas.Int.{ints}
use Rattle.cts_geom.specs.declared.bounds.Die.{Die}
use Rattle.cts_geom.specs.Coordinate.{IsCoordinate}
use Rattle.cts_block.specs.declared.blocks.Block.{Block}
use Rattle.cts_block.specs.FreePoints.{IsHalfInDie, IsHalfInside}
use Rattle.cts_instance.specs.declared.parts.Parts.{Parts}
use Rattle.cts_block.specs.Places.{IsInDie, IsInside}
use Rattle.cts_instance.specs.Validity.{IsValid}
use Rattle.cts_instance.specs.Laws.{half_at, IsOnChip, HasPlacesOnChip, HasCoordinates, HasFreePlaces}

on_chip : (low z high : ℤ) → pos 0 ≤ℤ low → low ≤ℤ z → z ≤ℤ high → high ≤ℤ pos (10 ^ 8) → IsOnChip z
on_chip low z high a b c d = record { low = omega (arith, ints); high = omega (arith, ints) }

coordinate : (z : ℤ) → IsOnChip z → IsCoordinate z
coordinate z p = record { low = omega (arith, ints); high = omega (arith, ints) }

twice_le : (a b : ℤ) → a ≤ℤ b → (pos 2 *ℤ a) ≤ℤ (pos 2 *ℤ b)
twice_le a b h = omega (arith, ints)

half_lt : (a b : ℤ) → (pos 2 *ℤ a) <ℤ (pos 2 *ℤ b) → a <ℤ b
half_lt a b h = omega (arith, ints)

pub half_in_die : (die : Die) (x y : ℤ) → IsInDie die x y → IsHalfInDie die (half_at x y)
half_in_die die x y p = record {
  x = record { at_least = twice_le _ _ p.west; at_most = twice_le _ _ p.east };
  y = record { at_least = twice_le _ _ p.south; at_most = twice_le _ _ p.north };
}

pub half_inside : (block : Block) (x y : ℤ) → IsHalfInside block (half_at x y) → IsInside block x y
half_inside block x y p = record {
  west = half_lt _ _ p.x.above;
  east = half_lt _ _ p.x.below;
  south = half_lt _ _ p.y.above;
  north = half_lt _ _ p.y.below;
}

pub has_places_on_chip : (parts : Parts) → IsValid parts → HasPlacesOnChip parts
has_places_on_chip parts v = record {
  source_x = on_chip _ _ _ v.die.x_low v.source.west v.source.east v.die.x_high;
  source_y = on_chip _ _ _ v.die.y_low v.source.south v.source.north v.die.y_high;
  sinks_x = λ k d inside. let s = (v.sinks k d inside).in_die in on_chip _ _ _ v.die.x_low s.west s.east v.die.x_high;
  sinks_y = λ k d inside. let s = (v.sinks k d inside).in_die in on_chip _ _ _ v.die.y_low s.south s.north v.die.y_high;
}

pub has_coordinates : (parts : Parts) → IsValid parts → HasCoordinates parts
has_coordinates parts v = let p = has_places_on_chip parts v in record {
  source_x = coordinate _ p.source_x;
  source_y = coordinate _ p.source_y;
  sinks_x = λ k d inside. coordinate _ (p.sinks_x k d inside);
  sinks_y = λ k d inside. coordinate _ (p.sinks_y k d inside);
}

pub has_free_places : (parts : Parts) → IsValid parts → HasFreePlaces parts
has_free_places parts v = record {
  source = record {
    in_die = half_in_die parts.die parts.source_x parts.source_y v.source;
    clear = λ k d inside stops within.
        (v.clear k d inside).of_source stops (half_inside _ parts.source_x parts.source_y within);
  };
  sinks = λ k d inside. record {
    in_die = half_in_die parts.die _ _ (v.sinks k d inside).in_die;
    clear = λ j e within stops strictly.
        (v.clear j e within).of_sinks stops k d inside (half_inside _ _ _ strictly);
  };
}
