use Rattle.cts_block.specs.Search.{IsObstacle}
use Rattle.cts_block.proofs.OrderLemmas.{ahead_trans}
use Rattle.cts_block.proofs.ColumnLemmas.{ahead_of_all}
use Rattle.cts_block.proofs.ObstacleLemmas.{clear_or_covered, ahead_on_side}
use Rattle.cts_block.proofs.scan.first_free.Goals as goal

pub returns-clause-first : goal.returns-clause-first
returns-clause-first c =
    let blocks = c.args.blocks.now in
    let buffered = c.args.buffered in
    let die = c.args.die.now in
    let from = c.args.from in
    let near = c.first_of_columns-near.result in
    let best = c.improve_beside_all.result in
    let columns = c.first_of_columns-near.ensures in
    let all = c.improve_beside_all.ensures in
    ahead_of_all (IsObstacle blocks buffered) die from _ c.closest_columns-columns.ensures (clear_or_covered blocks buffered) best
    (λ q free low. ahead_trans from best near q all.ahead (columns.low q free low))
    (λ q free high. ahead_trans from best near q all.ahead (columns.high q free high))
    (λ side q free beyond on. ahead_on_side blocks buffered die from best all.first side q free on)
