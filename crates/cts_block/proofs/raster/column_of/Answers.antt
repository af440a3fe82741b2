use Rattle.std.proofs.Common.{◌≡◌, ℕ, List, arith}
use Rattle.std.proofs.lemmas.List.{length-append}
use Rattle.cts_block.specs.declared.blocks.Block.{Block}
use Rattle.cts_block.specs.Raster.{IsCellOf, band_of}
use Rattle.cts_block.proofs.RasterLemmas.{each_more, range_same}
use Rattle.cts_block.proofs.raster.column_of.Goals as goal

pub loop-row-preserved : goal.loop-row-preserved
loop-row-preserved c =
    let before = c.loop-row.invariant in
    let blocks = c.args.blocks.now in
    let column = c.args.column in
    let rows = c.args.rows.now in
    let old = c.loop-row.cells.items in
    let Is : ℕ → List Block → Type 0 = λ j cell. IsCellOf blocks column (band_of rows j) cell in
    let row : c.numbers_of.result ≡ band_of rows c.loop-row.row = range_same _ _ c.numbers_of.ensures.low c.numbers_of.ensures.high in
    let here : Is c.loop-row.row c.of.result = rw c.of.ensures (rw (← row) c.in_ok-cell.ensures) in
    rw c.in_ok-push.ensures.items (record {
      count = simp length-append (omega (arith, before.count));
      cell = each_more Is old c.of.result c.loop-row.row before.count before.cell here;
    })
