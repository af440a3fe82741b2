use Rattle.std.proofs.Common.{sym, ap}
use Rattle.cts_plain.specs.EndsOf.{of_plan}
use Rattle.cts_plain.proofs.end.NoTreeFromUpEnd.from.Goals as goal

pub returns-in-Beyond : goal.returns-in-Beyond
returns-in-Beyond c = ap of_plan (sym c.in-Beyond.is)

pub returns-in-NoMemory : goal.returns-in-NoMemory
returns-in-NoMemory c = ap of_plan (sym c.in-NoMemory.is)
