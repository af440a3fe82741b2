use Rattle.cts_notes.specs.Stops.{ending_note}
use Rattle.cts_notes.proofs.stop.put_ending.Goals as goal

pub returns-in-Ok : goal.returns-in-Ok
unfolding ending_note
returns-in-Ok g c = rw c.in-Ok.is c.put.ensures

pub returns-in-Err : goal.returns-in-Err
unfolding ending_note
returns-in-Err g c = rw c.in-Err.is c.put_stop.ensures
