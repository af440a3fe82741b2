use Rattle.std.proofs.Common.{arith}
use Rattle.cts_history.proofs.words.put_count.Goals as goal

pub put_number-requires-clause-value : goal.put_number-requires-clause-value
put_number-requires-clause-value g c = omega arith

pub put_number-requires-clause-places : goal.put_number-requires-clause-places
put_number-requires-clause-places g c = omega arith

pub returns : goal.returns
returns g c = rw c.from.ensures at c.put_number.ensures
