use Rattle.std.proofs.Common.{sym, ap}
use Rattle.cts_plain.specs.EndsOf.{of_balance}
use Rattle.cts_plain.proofs.end.NoTreeFromBalanceEnd.from.Goals as goal

pub returns-in-Beyond : goal.returns-in-Beyond
returns-in-Beyond c = ap of_balance (sym c.in-Beyond.is)

pub returns-in-NoMemory : goal.returns-in-NoMemory
returns-in-NoMemory c = ap of_balance (sym c.in-NoMemory.is)
