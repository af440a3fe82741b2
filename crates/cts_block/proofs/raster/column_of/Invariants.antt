use Rattle.std.proofs.Common.{◌≡◌, ℕ, ◌<◌, length, slice_index_or, List}
use Rattle.cts_block.specs.declared.blocks.Block.{Block}
use Rattle.cts_block.specs.Raster.{IsCellOf, band_of}
use Rattle.cts_block.proofs.raster.column_of.Given as goal

abbrev pub invariant-loop-row : goal.invariant-loop-row
invariant-loop-row l = record {
  count : length l.cells.items ≡ l.row;
  cell : (j : ℕ) (d : List Block) → j < l.row → IsCellOf l.blocks l.column (band_of l.rows j) (slice_index_or l.cells.items j d);
}
