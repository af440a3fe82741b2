use Rattle.std.proofs.Common.{sym, ap}
use Rattle.cts_near.specs.TreeEnds.{of_shape}
use Rattle.cts_near.proofs.tree_end.NoNearTreeFromNearEnd.from.Goals as goal

pub returns-in-Many : goal.returns-in-Many
returns-in-Many c = ap of_shape (sym c.in-Many.is)

pub returns-in-Beyond : goal.returns-in-Beyond
returns-in-Beyond c = ap of_shape (sym c.in-Beyond.is)

pub returns-in-NoMemory : goal.returns-in-NoMemory
returns-in-NoMemory c = ap of_shape (sym c.in-NoMemory.is)
