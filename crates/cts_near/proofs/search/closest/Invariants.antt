use Rattle.cts_near.specs.Search.{AreBounds}
use Rattle.cts_near.proofs.Bounds.{left_above}
use Rattle.cts_near.proofs.search.closest.Given as goal

abbrev pub invariant-loop-bounds : goal.invariant-loop-bounds
invariant-loop-bounds l = AreBounds l.subtrees l.bounds

abbrev pub decreases-loop-bounds : goal.decreases-loop-bounds
decreases-loop-bounds l = left_above l.bounds
