use Rattle.std.proofs.Common.{rules}
use Rattle.cts_block.proofs.free.is_half_in_die.Goals as goal

pub returns-then-is_between : goal.returns-then-is_between
returns-then-is_between c =
    (λ test. record { x = search rules; y = search rules }, λ in_die. search (rules, in_die.y))
