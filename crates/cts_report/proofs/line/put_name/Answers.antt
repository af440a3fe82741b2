use Rattle.cts_io.proofs.Chains.{◌▸◌}
use Rattle.cts_report.specs.Lines.{name_words}
use Rattle.cts_report.proofs.line.put_name.Goals as goal

pub returns-in-Leaf : goal.returns-in-Leaf
unfolding name_words
returns-in-Leaf g c = rw c.in-Leaf.is (rw c.from.ensures at c.put_whole.ensures)

pub returns-in-Pair : goal.returns-in-Pair
unfolding name_words
returns-in-Pair g c = rw c.in-Pair.is ((rw c.from-in-Pair.ensures at c.put_whole-in-Pair.ensures) ▸ (rw c.from-in-Pair-2.ensures at c.put_whole-in-Pair-2.ensures))
