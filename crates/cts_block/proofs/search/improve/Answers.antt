use Rattle.std.proofs.Common.{inl, inr}
use Rattle.cts_block.proofs.OrderLemmas.{ahead_refl, ahead_trans, nearer_is_ahead}
use Rattle.cts_block.proofs.SearchLemmas.{range_in_die}
use Rattle.cts_block.proofs.search.improve.Goals as goal

pub reach-requires-clause-from : goal.reach-requires-clause-from
reach-requires-clause-from g c = c.requires.from

pub reach-requires-clause-p : goal.reach-requires-clause-p
reach-requires-clause-p g c = range_in_die _ c.requires.die _ c.requires.best.in_die

pub least_reach-requires-clause-from : goal.least_reach-requires-clause-from
least_reach-requires-clause-from g c = c.requires.from

pub least_reach-requires-clause-bottom : goal.least_reach-requires-clause-bottom
least_reach-requires-clause-bottom g c = range_in_die _ c.requires.die _ c.requires.segment.bottom

pub least_reach-requires-clause-top : goal.least_reach-requires-clause-top
least_reach-requires-clause-top g c = range_in_die _ c.requires.die _ c.requires.segment.top

pub returns-then-reach-least_reach-clause-free : goal.returns-then-reach-least_reach-clause-free
returns-then-reach-least_reach-clause-free g c = c.requires.best

pub returns-then-reach-least_reach-clause-ahead : goal.returns-then-reach-least_reach-clause-ahead
returns-then-reach-least_reach-clause-ahead g c = ahead_refl c.args.from c.args.best

pub returns-then-reach-least_reach-clause-first : goal.returns-then-reach-least_reach-clause-first
returns-then-reach-least_reach-clause-first g c = λ q free on.
    nearer_is_ahead c.args.from c.args.best q c.least_reach.result (rw c.reach.ensures.value at c.if-reach-least_reach.true) (c.least_reach.ensures q on)

pub first_in_column-requires-clause-die : goal.first_in_column-requires-clause-die
first_in_column-requires-clause-die g c = c.requires.die

pub first_in_column-requires-clause-lie : goal.first_in_column-requires-clause-lie
first_in_column-requires-clause-lie g c = c.requires.lie

pub first_in_column-requires-clause-from : goal.first_in_column-requires-clause-from
first_in_column-requires-clause-from g c = c.requires.from

pub first_in_column-requires-clause-column : goal.first_in_column-requires-clause-column
first_in_column-requires-clause-column g c = c.requires.segment.bottom

pub first_of_two-requires-clause-from : goal.first_of_two-requires-clause-from
first_of_two-requires-clause-from g c = c.requires.from

pub first_of_two-requires-clause-p : goal.first_of_two-requires-clause-p
first_of_two-requires-clause-p g c = range_in_die _ c.requires.die _ c.requires.best.in_die

pub first_of_two-requires-clause-q : goal.first_of_two-requires-clause-q
first_of_two-requires-clause-q g c = range_in_die _ c.requires.die _ c.first_in_column.ensures.free.in_die

pub returns-clause-free : goal.returns-clause-free
returns-clause-free g c = elim c.first_of_two.ensures.one [ inl is ↦ rw is c.requires.best | inr is ↦ rw is c.first_in_column.ensures.free ]

pub returns-clause-ahead : goal.returns-clause-ahead
returns-clause-ahead g c = c.first_of_two.ensures.before_p

pub returns-clause-first : goal.returns-clause-first
returns-clause-first g c = λ q free on.
    ahead_trans c.args.from c.first_of_two.result c.first_in_column.result q c.first_of_two.ensures.before_q (c.first_in_column.ensures.first q free on.column)
