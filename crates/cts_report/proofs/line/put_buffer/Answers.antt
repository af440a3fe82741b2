use Rattle.cts_report.specs.Lines.{buffer_words}
use Rattle.cts_report.proofs.line.put_buffer.Goals as goal

pub returns-in-Some : goal.returns-in-Some
unfolding buffer_words
returns-in-Some g c = rw c.in-Some.is (rw c.from.ensures at c.put_whole.ensures)

pub returns-in-None : goal.returns-in-None
unfolding buffer_words
returns-in-None g c = rw c.in-None.is c.put.ensures
