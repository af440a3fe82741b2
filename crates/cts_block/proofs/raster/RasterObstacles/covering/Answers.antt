use Rattle.std.proofs.Common.{arith}
use Rattle.std.proofs.lemmas.Int.{ints}
use Rattle.cts_block.specs.Raster.{IsHalfIn, band_of}
use Rattle.cts_block.proofs.RasterLemmas.{cell_at, half_in, found_in_cell, none_in_cell, none_beside, none_above}
use Rattle.cts_block.proofs.raster.RasterObstacles.covering.Goals as goal

pub returns-in_err-column-clause-none : goal.returns-in_err-column-clause-none
returns-in_err-column-clause-none c =
    let in' = c.self.inside in
    rw (c.from_residual.ensures, ← c.self.view_is)
    (none_beside in'.blocks in'.columns in'.rows in'.cells c.self.invariant c.args.point _
    (omega (arith, ints, c.rounded_down.ensures.low)) (omega (arith, ints, c.rounded_down.ensures.high)) c.in_err-column.ensures.outside)

pub returns-in_err-row-clause-none : goal.returns-in_err-row-clause-none
returns-in_err-row-clause-none c =
    let in' = c.self.inside in
    rw (c.from_residual-in_err-row.ensures, ← c.self.view_is)
    (none_above in'.blocks in'.columns in'.rows in'.cells c.self.invariant c.args.point _
    (omega (arith, ints, c.rounded_down-2.ensures.low)) (omega (arith, ints, c.rounded_down-2.ensures.high)) c.in_err-row.ensures.outside)

pub returns-clause-found : goal.returns-clause-found
returns-clause-found c =
    let in' = c.self.inside in
    let cell = cell_at in'.blocks in'.columns in'.rows in'.cells c.self.invariant.columns_are c.in_ok-column.column c.in_ok-row.row
    c.in_ok-column.ensures.within c.in_ok-row.ensures.within c.index-items-column.result c.index-items-row.result
    (rw c.items.ensures at c.index-items-column.is) (rw c.items-2.ensures at c.index-items-row.is) in
    rw (← c.self.view_is) (found_in_cell c.around.result in'.blocks c.index-items-row.result c.args.point cell.sound (rw (c.items-cell.ensures) at c.around.ensures.found))

pub returns-clause-none : goal.returns-clause-none
returns-clause-none c =
    let in' = c.self.inside in
    let cell = cell_at in'.blocks in'.columns in'.rows in'.cells c.self.invariant.columns_are c.in_ok-column.column c.in_ok-row.row
    c.in_ok-column.ensures.within c.in_ok-row.ensures.within c.index-items-column.result c.index-items-row.result
    (rw c.items.ensures at c.index-items-column.is) (rw c.items-2.ensures at c.index-items-row.is) in
    let column : IsHalfIn (band_of in'.columns c.in_ok-column.column) c.args.point.x = half_in _ _ _ c.in_ok-column.ensures.low c.in_ok-column.ensures.high
    (omega (arith, ints, c.rounded_down.ensures.low)) (omega (arith, ints, c.rounded_down.ensures.high)) in
    let row : IsHalfIn (band_of in'.rows c.in_ok-row.row) c.args.point.y = half_in _ _ _ c.in_ok-row.ensures.low c.in_ok-row.ensures.high
    (omega (arith, ints, c.rounded_down-2.ensures.low)) (omega (arith, ints, c.rounded_down-2.ensures.high)) in
    rw (← c.self.view_is) (none_in_cell c.around.result in'.blocks c.index-items-row.result c.args.point _ _ cell column row (rw (c.items-cell.ensures) at c.around.ensures.none))

pub bounds-items-column : goal.bounds-items-column
bounds-items-column c = rw (c.items.ensures, c.self.invariant.columns_are.count) c.in_ok-column.ensures.within

pub bounds-items-row : goal.bounds-items-row
bounds-items-row c =
    let column = rw c.items.ensures at c.index-items-column.is in
    let cells = c.self.invariant.columns_are.column c.in_ok-column.column c.index-items-column.result c.in_ok-column.ensures.within in
    rw (c.items-2.ensures, column, cells.count) c.in_ok-row.ensures.within

pub returns-in_err-column-clause-found : goal.returns-in_err-column-clause-found
returns-in_err-column-clause-found c = rw c.from_residual.ensures tt

pub returns-in_err-row-clause-found : goal.returns-in_err-row-clause-found
returns-in_err-row-clause-found c = rw c.from_residual-in_err-row.ensures tt

pub around-requires : goal.around-requires
around-requires c = c.requires
