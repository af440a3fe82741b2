-- What the notes say where a run wrote nothing whole.
use Rattle.std.specs.Prelude.{List, ℕ, [], codes, Result, Ok, Err}
use Rattle.cts_notes.specs.Notes.{refusal_note, too_long_note}
use Rattle.cts_top.specs.declared.stop.Answer.{Answer}
use Rattle.cts_top.specs.declared.stop.Stop.{Stop}
use Rattle.cts_top.specs.declared.stop.Stop.TheVariants as stop

abbrev pub usage_note : List ℕ
usage_note = codes "usage: cts synth W, check, edit, make SEED N, job SEED N W, trunk STEP J, near, replay\n"

-- an instance has too many sinks for a nearest-pair topology
abbrev pub many_note : List ℕ
many_note = codes "refused: more than 2048 sinks for near\n"

unfoldable pub stop_note : Stop → List ℕ
stop_note stop.Words = usage_note
stop_note stop.TooLong = too_long_note
stop_note stop.Many = many_note
stop_note (stop.Refused line cause) = refusal_note line cause
stop_note stop.ReadFault = codes "read fault\n"
stop_note stop.WriteFault = codes "write fault\n"
stop_note stop.NoMemory = codes "no memory\n"

-- a run that wrote its text whole has nothing to say
unfoldable pub note_of : Result Answer Stop → List ℕ
note_of (Ok answer) = []
note_of (Err stop) = stop_note stop
