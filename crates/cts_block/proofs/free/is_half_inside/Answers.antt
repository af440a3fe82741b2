use Rattle.std.proofs.Common.{refl, arith}
use Rattle.std.proofs.lemmas.Int.{ints}
use Rattle.cts_block.proofs.free.is_half_inside.Goals as goal

pub returns-then-is_strictly_between : goal.returns-then-is_strictly_between
returns-then-is_strictly_between c = (
  λ test.
      let x = c.if-is_strictly_between.ensures.0 refl in
      let y = c.is_strictly_between-then-is_strictly_between.ensures.0 test in
      record {
        x = record { above = omega (arith, ints, x.above); below = omega (arith, ints, x.below) };
        y = record { above = omega (arith, ints, y.above); below = omega (arith, ints, y.below) };
      },
  λ inside.
      c.is_strictly_between-then-is_strictly_between.ensures.1 (record { above = omega (arith, ints, inside.y.above); below = omega (arith, ints, inside.y.below) }),
)
