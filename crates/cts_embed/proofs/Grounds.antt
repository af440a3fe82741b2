-- The blocks and the die of a valid instance are in range.
use Rattle.std.proofs.Common.{arith}
use Rattle.std.proofs.lemmas.Int.{ints}
use Rattle.cts_block.specs.NearestFree.{IsDieInRange}
use Rattle.cts_route.specs.Limits.{AreBlocksInRange}
use Rattle.cts_instance.specs.declared.parts.Parts.{Parts}
use Rattle.cts_instance.specs.Validity.{IsBlock, IsValid}

pub die_in_range : (parts : Parts) → IsValid parts → IsDieInRange parts.die
die_in_range parts ok = record {
  x1 = record { low = omega (arith, ints, ok.die.x_low); high = omega (arith, ints, ok.die.x_order, ok.die.x_high) };
  x2 = record { low = omega (arith, ints, ok.die.x_low, ok.die.x_order); high = omega (arith, ints, ok.die.x_high) };
  y1 = record { low = omega (arith, ints, ok.die.y_low); high = omega (arith, ints, ok.die.y_order, ok.die.y_high) };
  y2 = record { low = omega (arith, ints, ok.die.y_low, ok.die.y_order); high = omega (arith, ints, ok.die.y_high) };
  x_ordered = ok.die.x_order;
  y_ordered = ok.die.y_order;
}

pub blocks_in_range : (parts : Parts) → IsValid parts → AreBlocksInRange parts.blocks
blocks_in_range parts ok = record {
  each = λ k d h.
      let b : IsBlock parts.die _ = ok.blocks k d h in
      record {
        x1 = record { low = omega (arith, ints, ok.die.x_low, b.from.west); high = omega (arith, ints, ok.die.x_high, b.from.east) };
        x2 = record { low = omega (arith, ints, ok.die.x_low, b.to.west); high = omega (arith, ints, ok.die.x_high, b.to.east) };
        y1 = record { low = omega (arith, ints, ok.die.y_low, b.from.south); high = omega (arith, ints, ok.die.y_high, b.from.north) };
        y2 = record { low = omega (arith, ints, ok.die.y_low, b.to.south); high = omega (arith, ints, ok.die.y_high, b.to.north) };
      };
  count = ok.all_blocks;
}
