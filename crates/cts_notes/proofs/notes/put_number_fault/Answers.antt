use Rattle.cts_notes.specs.Notes.{number_words}
use Rattle.cts_notes.proofs.notes.put_number_fault.Goals as goal

pub returns-in-Empty : goal.returns-in-Empty
unfolding number_words
returns-in-Empty g c = rw c.in-Empty.is c.put.ensures

pub returns-in-BadByte : goal.returns-in-BadByte
unfolding number_words
returns-in-BadByte g c = rw c.in-BadByte.is c.put_numbered.ensures

pub returns-in-TooFine : goal.returns-in-TooFine
unfolding number_words
returns-in-TooFine g c = rw c.in-TooFine.is c.put_numbered-in-TooFine.ensures

pub returns-in-TooGreat : goal.returns-in-TooGreat
unfolding number_words
returns-in-TooGreat g c = rw c.in-TooGreat.is c.put-in-TooGreat.ensures
