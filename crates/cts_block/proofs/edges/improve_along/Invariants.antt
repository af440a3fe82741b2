use Rattle.std.proofs.Common.{ℕ, ◌<◌, slice_index_or}
use Rattle.cts_block.specs.declared.edge.Edge.{Edge}
use Rattle.cts_block.specs.declared.whole.Whole.{Whole}
use Rattle.cts_block.specs.Search.{IsFreeAmong, IsAhead, IsOn}
use Rattle.cts_block.proofs.edges.improve_along.Given as goal

abbrev pub invariant-loop-edge : goal.invariant-loop-edge
invariant-loop-edge g l = record {
  free : IsFreeAmong (g.O.Obstacles.counts l.obstacles) l.die l.best;
  ahead : IsAhead l.from l.best l.fn.near;
  first : (k : ℕ) (d : Edge) → k < l.edge-index → (q : Whole) → IsFreeAmong (g.O.Obstacles.counts l.obstacles) l.die q
      → IsOn (slice_index_or l.edges k d).segment q → IsAhead l.from l.best q;
}
