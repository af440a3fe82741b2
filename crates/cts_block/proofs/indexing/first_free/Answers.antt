use Rattle.std.specs.Prelude.{Contains}
use Rattle.cts_block.specs.declared.whole.Side.{Side}
use Rattle.cts_block.specs.declared.whole.Whole.{Whole}
use Rattle.cts_block.specs.Search.{IsFreeAmong, IsAhead, IsBeyond, IsOnSide}
use Rattle.cts_block.proofs.OrderLemmas.{ahead_trans}
use Rattle.cts_block.proofs.ColumnLemmas.{ahead_of_all}
use Rattle.cts_block.proofs.IndexLemmas.{by_side, clear_or_covered_all}
use Rattle.cts_block.proofs.indexing.first_free.Goals as goal

pub returns-clause-first : goal.returns-clause-first
returns-clause-first c =
    let blocks = c.args.index.now.raster in
    let die = c.args.die.now in
    let from = c.args.from in
    let columns = c.closest_columns-columns.result in
    let near = c.first_of_columns-near.result in
    let at_left = c.improve_on-at_left.result in
    let best = c.improve_on.result in
    let start = c.first_of_columns-near.ensures in
    let left = c.improve_on-at_left.ensures in
    let right = c.improve_on.ensures in
    let ahead : IsAhead from best near = ahead_trans from best at_left near right.ahead left.ahead in
    let Seen : Side → Type 0 = λ side. (q : Whole) → IsFreeAmong (Contains blocks) die q → IsBeyond side columns q → IsOnSide (Contains blocks) side q → IsAhead from best q in
    ahead_of_all (Contains blocks) die from columns c.closest_columns-columns.ensures (clear_or_covered_all blocks) best
    (λ q free low. ahead_trans from best near q ahead (start.low q free low))
    (λ q free high. ahead_trans from best near q ahead (start.high q free high))
    (by_side Seen (λ q free beyond on. ahead_trans from best at_left q right.ahead (left.first q free beyond on)) right.first)
