use Rattle.std.proofs.Common.{ℕ, ◌<◌, slice_index_or}
use Rattle.std.specs.Prelude.{Contains}
use Rattle.cts_geom.specs.declared.points.Half.{Half}
use Rattle.cts_block.specs.declared.blocks.Block.{Block}
use Rattle.cts_block.specs.FreePoints.{IsHalfInside}
use Rattle.cts_block.specs.Raster.{IsHalfIn}
use Rattle.cts_block.proofs.raster.beside.Given as goal

abbrev pub invariant-loop-block : goal.invariant-loop-block
invariant-loop-block l = record {
  sound : (block : Block) → Contains l.near.items block → Contains l.blocks block;
  complete : (k : ℕ) (d : Block) → k < l.block-index → (at : Half) → IsHalfIn l.column at.x
      → IsHalfInside (slice_index_or l.blocks k d) at → Contains l.near.items (slice_index_or l.blocks k d);
}
