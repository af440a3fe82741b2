use Rattle.std.proofs.Common.{◌*◌, ap, arith}
use Rattle.cts_num.proofs.Tables.{power_at}
use Rattle.cts_num.proofs.read.scaled.Goals as goal

pub returns-then-value-from : goal.returns-then-value-from
returns-then-value-from c =
    (rw (c.from.ensures, c.from-2.ensures) (ap (λ p. c.args.number * p) (power_at c.args.zeros c.requires.zeros)), omega (arith, c.if-value-from.true, c.from-3.ensures))
