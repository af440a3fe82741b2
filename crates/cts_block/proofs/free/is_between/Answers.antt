use Rattle.std.proofs.Common.{sym, arith}
use Rattle.std.proofs.lemmas.Int.{ints}
use Rattle.cts_block.proofs.free.is_between.Goals as goal

pub returns-then-low-rounded_down : goal.returns-then-low-rounded_down
returns-then-low-rounded_down c =
    (λ test. record { at_least = omega (arith, ints); at_most = omega (arith, ints) }, λ between. sym (omega (arith, ints)))

pub returns-else-low-rounded_down : goal.returns-else-low-rounded_down
returns-else-low-rounded_down c = (λ never. absurd (cc), λ between. absurd (omega (arith, ints, between.at_least)))
