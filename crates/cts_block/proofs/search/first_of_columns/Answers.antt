use Rattle.std.proofs.Common.{arith, inl, inr}
use Rattle.std.proofs.lemmas.Int.{ints}
use Rattle.cts_block.proofs.SearchLemmas.{range_in_die}
use Rattle.cts_block.proofs.OrderLemmas.{ahead_trans}
use Rattle.cts_block.proofs.search.first_of_columns.Goals as goal

pub first_in_column-low-requires-clause-column : goal.first_in_column-low-requires-clause-column
first_in_column-low-requires-clause-column g c =
    let columns = c.requires.columns in
    record {
      x = record { at_least = omega (arith, ints, columns.low_least); at_most = omega (arith, ints, columns.ordered, columns.high_most) };
      y = record { at_least = omega (arith, ints); at_most = omega (arith, ints) };
    }

pub first_in_column-high-requires-clause-column : goal.first_in_column-high-requires-clause-column
first_in_column-high-requires-clause-column g c =
    let columns = c.requires.columns in
    record {
      x = record { at_least = omega (arith, ints, columns.low_least, columns.ordered); at_most = omega (arith, ints, columns.high_most) };
      y = record { at_least = omega (arith, ints); at_most = omega (arith, ints) };
    }

pub first_in_column-low-requires-clause-die : goal.first_in_column-low-requires-clause-die
first_in_column-low-requires-clause-die g c = c.requires.die

pub first_in_column-low-requires-clause-lie : goal.first_in_column-low-requires-clause-lie
first_in_column-low-requires-clause-lie g c = c.requires.lie

pub first_in_column-low-requires-clause-from : goal.first_in_column-low-requires-clause-from
first_in_column-low-requires-clause-from g c = c.requires.from

pub first_in_column-high-requires-clause-die : goal.first_in_column-high-requires-clause-die
first_in_column-high-requires-clause-die g c = c.requires.die

pub first_in_column-high-requires-clause-lie : goal.first_in_column-high-requires-clause-lie
first_in_column-high-requires-clause-lie g c = c.requires.lie

pub first_in_column-high-requires-clause-from : goal.first_in_column-high-requires-clause-from
first_in_column-high-requires-clause-from g c = c.requires.from

pub first_of_two-requires-clause-from : goal.first_of_two-requires-clause-from
first_of_two-requires-clause-from g c = c.requires.from

pub first_of_two-requires-clause-p : goal.first_of_two-requires-clause-p
first_of_two-requires-clause-p g c = range_in_die _ c.requires.die _ c.first_in_column-low.ensures.free.in_die

pub first_of_two-requires-clause-q : goal.first_of_two-requires-clause-q
first_of_two-requires-clause-q g c = range_in_die _ c.requires.die _ c.first_in_column-high.ensures.free.in_die

pub returns-clause-free : goal.returns-clause-free
returns-clause-free g c = elim c.first_of_two.ensures.one [ inl is ↦ rw is c.first_in_column-low.ensures.free | inr is ↦ rw is c.first_in_column-high.ensures.free ]

pub returns-clause-low : goal.returns-clause-low
returns-clause-low g c = λ q free column.
    ahead_trans c.args.from c.first_of_two.result c.first_in_column-low.result q c.first_of_two.ensures.before_p
    (c.first_in_column-low.ensures.first q free (omega (arith, ints, column)))

pub returns-clause-high : goal.returns-clause-high
returns-clause-high g c = λ q free column.
    ahead_trans c.args.from c.first_of_two.result c.first_in_column-high.result q c.first_of_two.ensures.before_q
    (c.first_in_column-high.ensures.first q free (omega (arith, ints, column)))
