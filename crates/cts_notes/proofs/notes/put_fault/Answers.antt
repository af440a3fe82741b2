use Rattle.cts_io.proofs.Chains.{◌▸◌}
use Rattle.cts_notes.specs.Notes.{fault_words}
use Rattle.cts_notes.proofs.notes.put_fault.Goals as goal

pub returns-in-NoSink : goal.returns-in-NoSink
unfolding fault_words
returns-in-NoSink g c = rw c.in-NoSink.is c.put.ensures

pub returns-in-TwiceSink : goal.returns-in-TwiceSink
unfolding fault_words
returns-in-TwiceSink g c = rw c.in-TwiceSink.is (c.put_numbered.ensures ▸ c.put-in-TwiceSink.ensures)

pub returns-in-Outside : goal.returns-in-Outside
unfolding fault_words
returns-in-Outside g c = rw c.in-Outside.is c.put-in-Outside.ensures

pub returns-in-InBlock : goal.returns-in-InBlock
unfolding fault_words
returns-in-InBlock g c = rw c.in-InBlock.is c.put-in-InBlock.ensures

pub returns-in-Range : goal.returns-in-Range
unfolding fault_words
returns-in-Range g c = rw c.in-Range.is c.put-in-Range.ensures

pub returns-in-TooMany : goal.returns-in-TooMany
unfolding fault_words
returns-in-TooMany g c = rw c.in-TooMany.is c.put-in-TooMany.ensures
