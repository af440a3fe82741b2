use Rattle.std.proofs.Common.{sym, arith}
use Rattle.std.proofs.lemmas.Int.{ints}
use Rattle.cts_route.proofs.clear.overlaps.Goals as goal

pub returns-then-low-to : goal.returns-then-low-to
returns-then-low-to c =
    (λ test. record { before = omega (arith, ints); after = omega (arith, ints) }, λ both. sym (omega (arith, ints)))
