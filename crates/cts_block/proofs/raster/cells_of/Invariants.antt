use Rattle.std.proofs.Common.{◌≡◌, ℕ, ◌<◌, length, slice_index_or, List}
use Rattle.cts_block.specs.declared.blocks.Block.{Block}
use Rattle.cts_block.specs.Raster.{AreCells, band_of}
use Rattle.cts_block.proofs.raster.cells_of.Given as goal

abbrev pub invariant-loop-index : goal.invariant-loop-index
invariant-loop-index l = record {
  count : length l.cells.items ≡ l.index;
  column : (i : ℕ) (d : List (List Block)) → i < l.index → AreCells l.blocks (band_of l.columns i) l.rows (slice_index_or l.cells.items i d);
}
