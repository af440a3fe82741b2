-- Why a run wrote nothing whole: what it comes from, its status and its note. `E` is a program's own reasons.
use Rattle.std.specs.Prelude.{ℕ, List, [], codes, Result, Ok, Err}
use Rattle.cts_io.specs.declared.read.ReadEnd.{ReadEnd}
use Rattle.cts_io.specs.declared.read.ReadEnd.TheVariants as reading
use Rattle.cts_read.specs.declared.stop.ReadStop.{ReadStop}
use Rattle.cts_read.specs.declared.stop.ReadStop.TheVariants as text
use Rattle.cts_notes.specs.Notes.{refusal_note, too_long_note}
use Rattle.cts_notes.specs.declared.status.Status.{Status}
use Rattle.cts_notes.specs.declared.status.Status.TheVariants as status
use Rattle.cts_notes.specs.declared.stop.Stop.{Stop}
use Rattle.cts_notes.specs.declared.stop.Stop.TheVariants as stop

abbrev pub stop_of_read : {E : Type 0} → ReadEnd → Stop E
stop_of_read reading.ReadFault = stop.ReadFault
stop_of_read reading.TooLong = stop.TooLong
stop_of_read reading.NoMemory = stop.NoMemory

abbrev pub stop_of_text : {E : Type 0} → ReadStop → Stop E
stop_of_text (text.Refused line cause) = stop.Refused line cause
stop_of_text text.NoMemory = stop.NoMemory

-- the status of a run that stopped so, where `own` is that of the program's own reasons
abbrev pub stop_status : {E : Type 0} → (E → Status) → Stop E → Status
stop_status own stop.Words = status.Words
stop_status own stop.TooLong = status.Refused
stop_status own (stop.Refused line cause) = status.Refused
stop_status own (stop.Own reason) = own reason
stop_status own stop.ReadFault = status.ReadFault
stop_status own stop.WriteFault = status.WriteFault
stop_status own stop.NoMemory = status.NoMemory

-- its note, where `usage` tells which words are served, and `own` is the note of the program's own reasons
unfoldable pub stop_note : {E : Type 0} → List ℕ → (E → List ℕ) → Stop E → List ℕ
stop_note usage own stop.Words = usage
stop_note usage own stop.TooLong = too_long_note
stop_note usage own (stop.Refused line cause) = refusal_note line cause
stop_note usage own (stop.Own reason) = own reason
stop_note usage own stop.ReadFault = codes "read fault\n"
stop_note usage own stop.WriteFault = codes "write fault\n"
stop_note usage own stop.NoMemory = codes "no memory\n"

-- a run that wrote something whole has nothing to say
unfoldable pub ending_note : {T E : Type 0} → List ℕ → (E → List ℕ) → Result T (Stop E) → List ℕ
ending_note usage own (Ok written) = []
ending_note usage own (Err stop) = stop_note usage own stop
