use Rattle.std.proofs.Common.{ℕ, ◌<◌, slice_index_or}
use Rattle.cts_block.specs.declared.blocks.Block.{Block}
use Rattle.cts_block.specs.FreePoints.{IsHalfInside}
use Rattle.cts_block.specs.Search.{Stops}
use Rattle.cts_block.proofs.scan.ScanObstacles.covering.Given as goal

abbrev pub invariant-loop-block : goal.invariant-loop-block
invariant-loop-block l =
    (k : ℕ) (d : Block) → k < l.block-index → Stops l.self.buffered (slice_index_or l.block-items k d).kind → ¬ IsHalfInside (slice_index_or l.block-items k d) l.point
