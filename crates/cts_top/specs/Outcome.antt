-- Statuses, and how a run ends.
use Rattle.std.specs.Prelude.{◌≡◌, ◌≢◌, ℕ, List, [], codes, Option, Result, Ok, Err, IfOk, IfErr, IsErrOf}
use Rattle.cts_io.specs.declared.read.ReadEnd.{ReadEnd}
use Rattle.cts_io.specs.declared.read.ReadEnd.TheVariants as reading
use Rattle.cts_read.specs.declared.stop.ReadStop.{ReadStop}
use Rattle.cts_read.specs.declared.stop.ReadStop.TheVariants as text
use Rattle.cts_notes.specs.declared.status.Status.{Status}
use Rattle.cts_notes.specs.declared.status.Status.TheVariants as status
use Rattle.cts_top.specs.declared.stop.Answer.{Answer}
use Rattle.cts_top.specs.declared.stop.Answer.TheVariants as answer
use Rattle.cts_top.specs.declared.stop.Stop.{Stop}
use Rattle.cts_top.specs.declared.stop.Stop.TheVariants as stop
use Rattle.cts_top.specs.declared.words.Form.{Form}
use Rattle.cts_top.specs.declared.words.Form.TheVariants.{Near}
use Rattle.cts_top.specs.Kinds.{HasKind}
use Rattle.cts_top.specs.Log.{Log}
use Rattle.cts_top.specs.Notes.{usage_note}
use Rattle.cts_top.specs.Reading.{Explains, HasRead, IsRefusalNote, LeavesOthers, OfInput, ReadsInput, reads}
use Rattle.cts_top.specs.Right.{IsRight}
use Rattle.cts_top.specs.Streams.{Failed, IsUntouched, KeepsCount, Stream, told_after, told_before}
use Rattle.cts_top.specs.Written.{IsAnswered, IsAnsweredInPart}

-- what a run stops at where reading its input ended so
abbrev pub stop_of_read : ReadEnd → Stop
stop_of_read reading.ReadFault = stop.ReadFault
stop_of_read reading.TooLong = stop.TooLong
stop_of_read reading.NoMemory = stop.NoMemory

abbrev pub stop_of_text : ReadStop → Stop
stop_of_text (text.Refused line cause) = stop.Refused line cause
stop_of_text text.NoMemory = stop.NoMemory

abbrev pub status_of : Result Answer Stop → Status
status_of (Ok answer.Text) = status.Done
status_of (Ok answer.No) = status.No
status_of (Ok answer.NoTree) = status.NoTree
status_of (Ok answer.NoTrunk) = status.NoTrunk
status_of (Err stop.Words) = status.Words
status_of (Err stop.TooLong) = status.Refused
status_of (Err stop.Many) = status.Refused
status_of (Err (stop.Refused line cause)) = status.Refused
status_of (Err stop.ReadFault) = status.ReadFault
status_of (Err stop.WriteFault) = status.WriteFault
status_of (Err stop.NoMemory) = status.NoMemory

-- How a run on an input and an output ends, for what the words ask. An answer is written whole, once the input was read to
-- its end, and is of a kind that the form may have, also where the input tells nothing; where nothing was written whole, the input
-- explains why, and the output is as it was but for a write fault.
pub record Serves {S K : Type 0} (log : Log) (form : Form) (source : Stream S) (sink : Stream K) (result : Result Answer Stop) : Type 0 where
  pub done : IfOk result (λ kind. HasRead (reads form) source
      × OfInput (reads form) (told_before source) (λ bytes. IsAnswered (IsRight log form bytes) kind (told_before sink) (told_after sink)))
  pub kinds : IfOk result (HasKind form)
  pub write_fault : IsErrOf result stop.WriteFault → HasRead (reads form) source × Failed sink
      × OfInput (reads form) (told_before source) (λ bytes. IsAnsweredInPart (IsRight log form bytes) (told_before sink) (told_after sink))
  pub read_fault : IsErrOf result stop.ReadFault → ReadsInput (reads form) × Failed source
  pub many : IsErrOf result stop.Many → form ≡ Near
  pub explained : IfErr result (λ end. OfInput (reads form) (told_before source) (Explains (reads form) end))
  pub kept : IfErr result (λ end. end ≢ stop.WriteFault → IsUntouched sink)
  pub others : LeavesOthers (reads form) source
  pub source_counted : KeepsCount source
  pub sink_counted : KeepsCount sink

-- What the notes get for a status, where `Asks` says what the words ask for and these bytes were left before: one line, or
-- nothing.
abbrev pub IsNote : (Form → Type 0) → Option (List ℕ) → Status → List ℕ → Type 0
IsNote Asks left status.Done note = note ≡ []
IsNote Asks left status.No note = note ≡ []
IsNote Asks left status.NoTree note = note ≡ []
IsNote Asks left status.NoTrunk note = note ≡ []
IsNote Asks left status.Words note = note ≡ usage_note
IsNote Asks left status.Refused note = (form : Form) → Asks form → IsRefusalNote (reads form) left note
IsNote Asks left status.ReadFault note = note ≡ codes "read fault\n"
IsNote Asks left status.WriteFault note = note ≡ codes "write fault\n"
IsNote Asks left status.NoMemory note = note ≡ codes "no memory\n"
