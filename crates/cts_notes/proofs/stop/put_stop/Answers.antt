use Rattle.cts_notes.specs.Stops.{stop_note}
use Rattle.cts_notes.proofs.stop.put_stop.Goals as goal

pub returns-in-Words : goal.returns-in-Words
unfolding stop_note
returns-in-Words g c = rw c.in-Words.is c.put.ensures

pub returns-in-TooLong : goal.returns-in-TooLong
unfolding stop_note
returns-in-TooLong g c = rw c.in-TooLong.is c.put-in-TooLong.ensures

pub returns-in-Refused : goal.returns-in-Refused
unfolding stop_note
returns-in-Refused g c = rw c.in-Refused.is c.put_refusal.ensures

pub returns-in-Own : goal.returns-in-Own
unfolding stop_note
returns-in-Own g c = rw c.in-Own.is c.put_note.ensures

pub returns-in-ReadFault : goal.returns-in-ReadFault
unfolding stop_note
returns-in-ReadFault g c = rw c.in-ReadFault.is c.put-in-ReadFault.ensures

pub returns-in-WriteFault : goal.returns-in-WriteFault
unfolding stop_note
returns-in-WriteFault g c = rw c.in-WriteFault.is c.put-in-WriteFault.ensures

pub returns-in-NoMemory : goal.returns-in-NoMemory
unfolding stop_note
returns-in-NoMemory g c = rw c.in-NoMemory.is c.put-in-NoMemory.ensures
