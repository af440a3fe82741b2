use Rattle.std.proofs.Common.{◌≡◌, pos, ◌*ℤ◌, to_z, of_z, w64, arith}
use Rattle.std.proofs.lemmas.Int.{ints}
use Rattle.cts_check.proofs.ends.source_point.Goals as goal

pub returns-clause-upper_end : goal.returns-clause-upper_end
returns-clause-upper_end c =
    let valid = c.source_x.ensures.valid in
    let x : to_z w64 (of_z w64 (pos 2 *ℤ to_z w64 (of_z w64 c.source_x.result))) ≡ pos 2 *ℤ c.args.instance.now.source_x =
    omega (arith, ints, c.source_x.ensures.part, valid.source.west, valid.source.east, valid.die.x_low, valid.die.x_high) in
    let y : to_z w64 (of_z w64 (pos 2 *ℤ to_z w64 (of_z w64 c.source_y.result))) ≡ pos 2 *ℤ c.args.instance.now.source_y =
    omega (arith, ints, c.source_y.ensures.part, valid.source.south, valid.source.north, valid.die.y_low, valid.die.y_high) in
    cc

pub returns-clause-in_range : goal.returns-clause-in_range
returns-clause-in_range c =
    let valid = c.source_x.ensures.valid in
    record {
      x = (
        omega (arith, ints, c.source_x.ensures.part, valid.source.west, valid.source.east, valid.die.x_low, valid.die.x_high),
        omega (arith, ints, c.source_x.ensures.part, valid.source.west, valid.source.east, valid.die.x_low, valid.die.x_high),
      );
      y = (
        omega (arith, ints, c.source_y.ensures.part, valid.source.south, valid.source.north, valid.die.y_low, valid.die.y_high),
        omega (arith, ints, c.source_y.ensures.part, valid.source.south, valid.source.north, valid.die.y_low, valid.die.y_high),
      );
    }
