use Rattle.std.proofs.Common.{◌/◌, ap, refl}
use Rattle.cts_num.proofs.Tables.{power_at}
use Rattle.cts_num.proofs.forward.short_parts.Goals as goal

pub returns-then-whole-lt-SHORT : goal.returns-then-whole-lt-SHORT
returns-then-whole-lt-SHORT c = (ap (λ u. c.args.value / u) (power_at c.args.places c.requires), refl, c.if-whole-lt-SHORT.true)
