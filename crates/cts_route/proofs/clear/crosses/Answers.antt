use Rattle.std.proofs.Common.{rules}
use Rattle.cts_route.proofs.clear.crosses.Goals as goal

pub returns-then-overlaps : goal.returns-then-overlaps
returns-then-overlaps c =
    (λ test. record { x = search rules; y = search rules }, λ both. search (rules, both.y))
