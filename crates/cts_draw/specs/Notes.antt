-- What the notes say where no picture was written whole. But for the usage and for a report that is none they are the notes
-- of the program for words.
use Rattle.std.specs.Prelude.{ℕ, List, ◌++◌, codes, Result}
use Rattle.cts_notes.specs.Notes.{numbered}
use Rattle.cts_notes.specs.Stops.{ending_note}
use Rattle.cts_notes.specs.declared.stop.Stop.{Stop}
use Rattle.cts_draw.specs.declared.stop.NotText.{NotText}

unfoldable pub not_text_note : NotText → List ℕ
not_text_note reason = numbered (codes "refused: report line ") reason.line ++ codes "\n"

abbrev pub note_of : Result Unit (Stop NotText) → List ℕ
note_of ending = ending_note (codes "usage: cts-draw\n") not_text_note ending
