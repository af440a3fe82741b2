-- A raster over a die: bands of columns and bands of rows of equal width, and for each cell, where two of them cross, the
-- blocks that reach into it.
use Rattle.std.specs.Prelude.{◌≡◌, ℕ, ◌*◌, ◌<◌, ℤ, pos, ◌+ℤ◌, ◌-ℤ◌, ◌*ℤ◌, ◌≤ℤ◌, List, Contains, length, slice_index_or}
use Rattle.cts_geom.specs.declared.points.Half.{Half}
use Rattle.cts_block.specs.declared.blocks.Block.{Block}
use Rattle.cts_block.specs.declared.whole.Range.{Range}
use Rattle.cts_block.specs.declared.bands.Bands.{Bands}
use Rattle.cts_block.specs.FreePoints.{IsHalfInside}

-- the whole numbers of one band
abbrev pub band_of : Bands → ℕ → Range
band_of bands band =
    let low = bands.low +ℤ pos (bands.size * band) in
    record { low = low; high = (low +ℤ pos bands.size) -ℤ pos 1 }

-- the first whole number after all bands
abbrev pub end_of : Bands → ℤ
end_of bands = bands.low +ℤ pos (bands.size * bands.count)

-- halves of nm lie in a range of whole numbers: a half belongs to the whole number below it
pub record IsHalfIn (range : Range) (halves : ℤ) : Type 0 where
  pub low : (pos 2 *ℤ range.low) ≤ℤ halves
  pub high : halves ≤ℤ (pos 2 *ℤ range.high +ℤ pos 1)

-- some block of the list has the point inside
pub record HasAround (blocks : List Block) (at : Half) : Type 0 where
  pub block : Block
  pub listed : Contains blocks block
  pub inside : IsHalfInside block at

-- of these blocks, the cell at these columns and rows has enough to tell whether a point in it lies inside one
pub record IsCellOf (blocks : List Block) (columns rows : Range) (cell : List Block) : Type 0 where
  pub sound : (block : Block) → Contains cell block → Contains blocks block
  pub complete : (block : Block) → Contains blocks block → (at : Half) → IsHalfIn columns at.x → IsHalfIn rows at.y → IsHalfInside block at → HasAround cell at

-- the cells of a column of the raster, from row to row
pub record AreCells (blocks : List Block) (columns : Range) (rows : Bands) (cells : List (List Block)) : Type 0 where
  pub count : length cells ≡ rows.count
  pub cell : (j : ℕ) (d : List Block) → j < rows.count → IsCellOf blocks columns (band_of rows j) (slice_index_or cells j d)

-- the columns of a raster
pub record AreColumns (blocks : List Block) (columns rows : Bands) (cells : List (List (List Block))) : Type 0 where
  pub count : length cells ≡ columns.count
  pub column : (i : ℕ) (d : List (List Block)) → i < columns.count → AreCells blocks (band_of columns i) rows (slice_index_or cells i d)

-- the blocks reach over the bands at most to their ends
pub record IsRaster (blocks : List Block) (columns rows : Bands) (cells : List (List (List Block))) : Type 0 where
  pub left : (block : Block) → Contains blocks block → columns.low ≤ℤ block.x1
  pub right : (block : Block) → Contains blocks block → block.x2 ≤ℤ end_of columns
  pub bottom : (block : Block) → Contains blocks block → rows.low ≤ℤ block.y1
  pub top : (block : Block) → Contains blocks block → block.y2 ≤ℤ end_of rows
  pub columns_are : AreColumns blocks columns rows cells
