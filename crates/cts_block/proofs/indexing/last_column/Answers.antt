use Rattle.std.proofs.Common.{arith}
use Rattle.std.proofs.lemmas.Int.{ints}
use Rattle.cts_block.proofs.indexing.last_column.Goals as goal

pub returns-in-Left-clause-in_die : goal.returns-in-Left-clause-in_die
returns-in-Left-clause-in_die c = record {
  x = record { at_least = omega (arith, ints); at_most = omega (arith, ints) };
  y = record { at_least = omega (arith, ints); at_most = omega (arith, ints) };
}

pub returns-in-Right-clause-in_die : goal.returns-in-Right-clause-in_die
returns-in-Right-clause-in_die c = record {
  x = record { at_least = omega (arith, ints); at_most = omega (arith, ints) };
  y = record { at_least = omega (arith, ints); at_most = omega (arith, ints) };
}
