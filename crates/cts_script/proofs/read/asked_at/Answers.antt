use Rattle.std.proofs.Common.{sym, ap}
use Rattle.cts_script.specs.Scripts.{asked_at}
use Rattle.cts_script.proofs.read.asked_at.Goals as goal

pub returns-in-End : goal.returns-in-End
returns-in-End c = ap (asked_at c.args.line) (sym c.in-End.is)

pub returns-in-Step : goal.returns-in-Step
returns-in-Step c = ap (asked_at c.args.line) (sym c.in-Step.is)
