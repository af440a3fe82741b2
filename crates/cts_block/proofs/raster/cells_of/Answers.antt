use Rattle.std.proofs.Common.{◌≡◌, ℕ, List, arith}
use Rattle.std.proofs.lemmas.List.{length-append}
use Rattle.cts_block.specs.declared.blocks.Block.{Block}
use Rattle.cts_block.specs.Raster.{AreCells, band_of}
use Rattle.cts_block.proofs.RasterLemmas.{each_more, range_same, cells_of_near}
use Rattle.cts_block.proofs.raster.cells_of.Goals as goal

pub loop-index-preserved : goal.loop-index-preserved
loop-index-preserved c =
    let before = c.loop-index.invariant in
    let blocks = c.args.blocks.now in
    let rows = c.args.rows.now in
    let old = c.loop-index.cells.items in
    let Is : ℕ → List (List Block) → Type 0 = λ i cells. AreCells blocks (band_of c.args.columns.now i) rows cells in
    let column : c.numbers_of-column.result ≡ band_of c.args.columns.now c.loop-index.index = range_same _ _ c.numbers_of-column.ensures.low c.numbers_of-column.ensures.high in
    let cells = c.in_ok-column_of.field-0 in
    let near = c.in_ok-near.ensures in
    let here : Is c.loop-index.index cells = rw (← column)
    (cells_of_near blocks c.in_ok-near.near.items c.numbers_of-column.result rows cells near.sound near.complete (rw (← c.as_slice.ensures.value) c.in_ok-column_of.ensures)) in
    rw c.in_ok-push.ensures.items (record {
      count = simp length-append (omega (arith, before.count));
      column = each_more Is old cells c.loop-index.index before.count before.column here;
    })
