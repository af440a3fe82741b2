use Rattle.cts_io.proofs.Chains.{◌▸◌}
use Rattle.cts_report.specs.Lines.{load_words}
use Rattle.cts_report.proofs.line.put_load.Goals as goal

pub put_delay-requires : goal.put_delay-requires
put_delay-requires g c = c.requires

pub returns-in-Leaf : goal.returns-in-Leaf
unfolding load_words
returns-in-Leaf g c = rw c.in-Leaf.is c.put_capacitance.ensures

pub returns-in-Pair : goal.returns-in-Pair
unfolding load_words
returns-in-Pair g c = rw c.in-Pair.is (c.put_buffer.ensures ▸ c.put_capacitance-in-Pair.ensures ▸ c.put_delay.ensures)
