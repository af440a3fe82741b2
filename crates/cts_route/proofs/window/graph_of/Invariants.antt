use Rattle.std.proofs.Common.{◌*◌, length}
use Rattle.cts_route.specs.Windows.{IsGraphUpTo}
use Rattle.cts_route.proofs.window.graph_of.Given as goal

abbrev pub invariant-loop-column : goal.invariant-loop-column
invariant-loop-column l = IsGraphUpTo l.walls l.xs l.ys (l.column * length l.ys) l.graph
