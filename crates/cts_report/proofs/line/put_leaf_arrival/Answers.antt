use Rattle.cts_io.proofs.Chains.{puts_nothing}
use Rattle.cts_report.specs.Lines.{arrival_words}
use Rattle.cts_report.proofs.line.put_leaf_arrival.Goals as goal

pub put_delay-requires : goal.put_delay-requires
put_delay-requires g c = c.requires

pub returns-in-Leaf : goal.returns-in-Leaf
unfolding arrival_words
returns-in-Leaf g c = rw c.in-Leaf.is c.put_delay.ensures

pub returns-in-Pair : goal.returns-in-Pair
unfolding arrival_words
returns-in-Pair g c = rw c.in-Pair.is (puts_nothing _ _)
