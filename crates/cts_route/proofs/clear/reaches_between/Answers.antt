use Rattle.std.proofs.Common.{arith}
use Rattle.std.proofs.lemmas.Int.{ints}
use Rattle.cts_route.proofs.clear.reaches_between.Goals as goal

pub returns : goal.returns
returns c = (
  λ test. let both = c.overlaps.ensures.0 test in record { before = omega (arith, ints, both.before); after = omega (arith, ints, both.after) },
  λ both. c.overlaps.ensures.1 (record { before = omega (arith, ints, both.before); after = omega (arith, ints, both.after) }),
)
