use Rattle.cts_route.specs.WindowOf.{IsFrameOf}
use Rattle.cts_route.proofs.grid.Grid.search.Given as goal

abbrev pub invariant-windows : goal.invariant-windows
invariant-windows l = IsFrameOf l.from l.to l.frame
