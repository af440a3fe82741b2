use Rattle.cts_io.proofs.Chains.{◌▸◌, puts_nothing}
use Rattle.cts_picture.specs.Legend.{arrivals_words}
use Rattle.cts_picture.proofs.legend.put_arrivals.Goals as goal

pub returns-in-None : goal.returns-in-None
unfolding arrivals_words
returns-in-None g c = rw c.in-None.is (puts_nothing _ _)

pub returns-in-Some : goal.returns-in-Some
unfolding arrivals_words
returns-in-Some g c = rw c.in-Some.is (c.put_time.ensures ▸ c.put_time-in-Some.ensures ▸ c.put.ensures)
