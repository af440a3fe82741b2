use Rattle.std.proofs.Common.{arith, inl, inr}
use Rattle.std.proofs.lemmas.Int.{ints}
use Rattle.cts_block.proofs.SearchLemmas.{first_of_column, range_in_die}
use Rattle.cts_block.proofs.search.first_in_column.Goals as goal

pub fall-below-requires-clause-in_die : goal.fall-below-requires-clause-in_die
fall-below-requires-clause-in_die g c =
    let start = c.closest_rows-start.ensures in
    record { x = c.requires.column.x; y = record { at_least = omega (arith, ints, start.low_least); at_most = omega (arith, ints, start.ordered, start.high_most) } }

pub rise-above-requires-clause-in_die : goal.rise-above-requires-clause-in_die
rise-above-requires-clause-in_die g c =
    let start = c.closest_rows-start.ensures in
    record { x = c.requires.column.x; y = record { at_least = omega (arith, ints, start.low_least, start.ordered); at_most = omega (arith, ints, start.high_most) } }

pub returns-clause-first : goal.returns-clause-first
returns-clause-first g c =
    let below = c.fall-below.ensures in
    let above = c.rise-above.ensures in
    first_of_column (g.O.Obstacles.counts c.args.obstacles.now) c.args.die.now c.args.from c.args.column _
    c.closest_rows-start.ensures _ _ _ _ _ (omega (arith, ints)) (omega (arith, ints))
    below.column below.below below.first above.column above.above above.first
    c.first_of_two.ensures.before_p c.first_of_two.ensures.before_q

pub closest_rows-start-requires-clause-ordered : goal.closest_rows-start-requires-clause-ordered
closest_rows-start-requires-clause-ordered g c = c.requires.die.y_ordered

pub closest_rows-start-requires-clause-from : goal.closest_rows-start-requires-clause-from
closest_rows-start-requires-clause-from g c = c.requires.from

pub fall-below-requires-clause-die : goal.fall-below-requires-clause-die
fall-below-requires-clause-die g c = c.requires.die

pub fall-below-requires-clause-lie : goal.fall-below-requires-clause-lie
fall-below-requires-clause-lie g c = c.requires.lie

pub rise-above-requires-clause-die : goal.rise-above-requires-clause-die
rise-above-requires-clause-die g c = c.requires.die

pub rise-above-requires-clause-lie : goal.rise-above-requires-clause-lie
rise-above-requires-clause-lie g c = c.requires.lie

pub first_of_two-requires-clause-from : goal.first_of_two-requires-clause-from
first_of_two-requires-clause-from g c = c.requires.from

pub first_of_two-requires-clause-p : goal.first_of_two-requires-clause-p
first_of_two-requires-clause-p g c = range_in_die _ c.requires.die _ c.fall-below.ensures.free.in_die

pub first_of_two-requires-clause-q : goal.first_of_two-requires-clause-q
first_of_two-requires-clause-q g c = range_in_die _ c.requires.die _ c.rise-above.ensures.free.in_die

pub returns-clause-free : goal.returns-clause-free
returns-clause-free g c = elim c.first_of_two.ensures.one [ inl is ↦ rw is c.fall-below.ensures.free | inr is ↦ rw is c.rise-above.ensures.free ]
