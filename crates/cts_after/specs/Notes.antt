-- What the notes say where nothing was written whole. But for the usage and for a history that is none they are the notes of
-- the program for words.
use Rattle.std.specs.Prelude.{ℕ, List, ◌++◌, codes, Result}
use Rattle.cts_notes.specs.Notes.{numbered}
use Rattle.cts_notes.specs.Stops.{ending_note}
use Rattle.cts_notes.specs.declared.stop.Stop.{Stop}
use Rattle.cts_after.specs.declared.outcome.Answer.{Answer}
use Rattle.cts_after.specs.declared.stop.NotHistory.{NotHistory}

unfoldable pub not_history_note : NotHistory → List ℕ
not_history_note reason = numbered (codes "refused: history line ") reason.line ++ codes "\n"

abbrev pub note_of : Result Answer (Stop NotHistory) → List ℕ
note_of ending = ending_note (codes "usage: cts-after\n") not_history_note ending
