use Rattle.cts_top.specs.Notes.{note_of, stop_note}
use Rattle.cts_top.proofs.Endings.{front_at, whole_at}
use Rattle.cts_top.proofs.calls.end_without_memory.Goals as goal

pub returns-clause-note : goal.returns-clause-note
unfolding note_of stop_note
returns-clause-note g c = λ calm. whole_at c.write_note.result c.write_note.ensures calm

pub returns-clause-front : goal.returns-clause-front
unfolding note_of stop_note
returns-clause-front g c = front_at _ c.write_note.result c.write_note.ensures
