use Rattle.std.proofs.Common.{ℕ, ◌<◌, slice_index_or}
use Rattle.cts_block.specs.declared.blocks.Block.{Block}
use Rattle.cts_block.specs.declared.whole.Whole.{Whole}
use Rattle.cts_block.specs.Search.{Stops, IsFreeAmong, IsObstacle, IsAhead, IsOnEdge}
use Rattle.cts_block.proofs.scan.improve_beside_all.Given as goal

abbrev pub invariant-loop-block : goal.invariant-loop-block
invariant-loop-block l = record {
  free : IsFreeAmong (IsObstacle l.scan.blocks.now l.scan.buffered) l.die l.best;
  ahead : IsAhead l.from l.best l.fn.start;
  first : (k : ℕ) (d : Block) → k < l.block-index → Stops l.scan.buffered (slice_index_or l.scan.blocks.now k d).kind
      → (q : Whole) → IsFreeAmong (IsObstacle l.scan.blocks.now l.scan.buffered) l.die q → IsOnEdge (slice_index_or l.scan.blocks.now k d) q → IsAhead l.from l.best q;
}
