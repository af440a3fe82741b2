use Rattle.cts_io.proofs.Chains.{puts_nothing}
use Rattle.cts_report.specs.Lines.{arrival_words}
use Rattle.cts_report.proofs.line.put_arrival.Goals as goal

pub returns-in-One : goal.returns-in-One
unfolding arrival_words
returns-in-One g c = rw c.in-One.is (puts_nothing _ _)

pub put_leaf_arrival-requires : goal.put_leaf_arrival-requires
put_leaf_arrival-requires g c = c.requires

pub returns-in-Two : goal.returns-in-Two
returns-in-Two g c = rw c.in-Two.is c.put_leaf_arrival.ensures
