use Rattle.std.proofs.Common.{sym, ap}
use Rattle.cts_plain.specs.EndsOf.{of_places}
use Rattle.cts_plain.proofs.end.NoTreeFromEmbedEnd.from.Goals as goal

pub returns-in-Cut : goal.returns-in-Cut
returns-in-Cut c = ap of_places (sym c.in-Cut.is)

pub returns-in-NoMemory : goal.returns-in-NoMemory
returns-in-NoMemory c = ap of_places (sym c.in-NoMemory.is)
