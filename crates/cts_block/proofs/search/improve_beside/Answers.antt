use Rattle.std.proofs.Common.{inl, inr}
use Rattle.cts_block.proofs.OrderLemmas.{ahead_trans}
use Rattle.cts_block.proofs.SearchLemmas.{left_edge_in_die, right_edge_in_die, on_edge}
use Rattle.cts_block.proofs.search.improve_beside.Goals as goal

pub improve-at_left-requires-clause-segment : goal.improve-at_left-requires-clause-segment
improve-at_left-requires-clause-segment g c =
    left_edge_in_die _ c.args.block.now _ c.requires.block c.left_edge.ensures.bottom c.left_edge.ensures.top

pub improve-requires-clause-segment : goal.improve-requires-clause-segment
improve-requires-clause-segment g c =
    right_edge_in_die _ c.args.block.now _ c.requires.block c.right_edge.ensures.bottom c.right_edge.ensures.top

pub returns-clause-ahead : goal.returns-clause-ahead
returns-clause-ahead g c =
    ahead_trans c.args.from c.improve.result c.improve-at_left.result c.args.best c.improve.ensures.ahead c.improve-at_left.ensures.ahead

pub returns-clause-first : goal.returns-clause-first
returns-clause-first g c = λ q free on.
    let left = c.left_edge.ensures in
    let right = c.right_edge.ensures in
    elim on.column [
      | inl at_left ↦ ahead_trans c.args.from c.improve.result c.improve-at_left.result q c.improve.ensures.ahead
          (c.improve-at_left.ensures.first q free (on_edge _ _ _ _ q left.bottom left.top at_left on.low on.high))
      | inr at_right ↦ c.improve.ensures.first q free (on_edge _ _ _ _ q right.bottom right.top at_right on.low on.high)
    ]
