use Rattle.std.proofs.Common.{◌+◌, ◌*◌, List, length}
use Rattle.cts_route.specs.declared.wall.Wall.{Wall}
use Rattle.cts_route.specs.Windows.{IsGraphUpTo, AreWallsBeside}
use Rattle.cts_route.proofs.window.push_column.Given as goal

abbrev pub invariant-loop-row : goal.invariant-loop-row
invariant-loop-row l =
    (walls : List Wall) → AreWallsBeside walls l.xs l.column l.near
    → IsGraphUpTo walls l.xs l.ys (l.column * length l.ys) l.initial.graph → IsGraphUpTo walls l.xs l.ys (l.first + l.row) l.graph
