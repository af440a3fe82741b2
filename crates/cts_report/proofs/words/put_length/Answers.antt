use Rattle.std.proofs.Common.{arith}
use Rattle.cts_report.specs.Lines.{length_in_um}
use Rattle.cts_report.proofs.words.put_length.Goals as goal

pub put_number-requires-clause-value : goal.put_number-requires-clause-value
put_number-requires-clause-value g c = omega arith

pub put_number-requires-clause-places : goal.put_number-requires-clause-places
put_number-requires-clause-places g c = omega arith

pub returns : goal.returns
unfolding length_in_um
returns g c = rw (← c.from.ensures) c.put_number.ensures
