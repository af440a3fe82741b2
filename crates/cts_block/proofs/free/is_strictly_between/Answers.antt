use Rattle.std.proofs.Common.{sym, arith}
use Rattle.std.proofs.lemmas.Int.{ints}
use Rattle.cts_block.proofs.free.is_strictly_between.Goals as goal

pub returns-then-low-rounded_up : goal.returns-then-low-rounded_up
returns-then-low-rounded_up c =
    (λ test. record { above = omega (arith, ints); below = omega (arith, ints) }, λ between. sym (omega (arith, ints)))

pub returns-else-low-rounded_up : goal.returns-else-low-rounded_up
returns-else-low-rounded_up c = (λ never. absurd (cc), λ between. absurd (omega (arith, ints, between.above)))
