use Rattle.cts_notes.specs.Notes.{cause_words}
use Rattle.cts_notes.proofs.notes.put_cause.Goals as goal

pub returns-in-NotAscii : goal.returns-in-NotAscii
unfolding cause_words
returns-in-NotAscii g c = rw c.in-NotAscii.is c.put.ensures

pub returns-in-Word : goal.returns-in-Word
unfolding cause_words
returns-in-Word g c = rw c.in-Word.is c.put-in-Word.ensures

pub returns-in-Count : goal.returns-in-Count
unfolding cause_words
returns-in-Count g c = rw c.in-Count.is c.put-in-Count.ensures

pub returns-in-Number : goal.returns-in-Number
unfolding cause_words
returns-in-Number g c = rw c.in-Number.is c.put_number_fault.ensures

pub returns-in-Missing : goal.returns-in-Missing
unfolding cause_words
returns-in-Missing g c = rw c.in-Missing.is c.put-in-Missing.ensures

pub returns-in-Fault : goal.returns-in-Fault
unfolding cause_words
returns-in-Fault g c = rw c.in-Fault.is c.put_fault.ensures
