-- What an input spells, and how a run that draws it ends.
use Rattle.std.specs.Prelude.{◌≡◌, ◌≢◌, ℕ, ◌<◌, ◌≤◌, ◌↔◌, Bool, true, List, length, take, Option, IfSome, Result, Ok, Err, IsOk, IfErr, IsErrOf}
use Rattle.std.specs.Io.KnownBytes.{Appends, IsAtEnd}
use Rattle.cts_io.specs.Faults.{Rose}
use Rattle.cts_instance.specs.declared.parts.Parts.{Parts}
use Rattle.cts_report.specs.Lines.{report_lines}
use Rattle.cts_report.specs.Printed.{Printed}
use Rattle.cts_report_reader.specs.Bounds.{IsReport}
use Rattle.cts_report_reader.specs.Forms.{form_of}
use Rattle.cts_report_reader.specs.Text.{Spells, IsNotText}
use Rattle.cts_picture.specs.Picture.{picture_text}
use Rattle.cts_notes.specs.Front.{SpellsFront, front_of, input_limit}
use Rattle.cts_notes.specs.declared.status.Status.{Status}
use Rattle.cts_notes.specs.declared.status.Status.TheVariants as status
use Rattle.cts_notes.specs.declared.stop.Stop.{Stop}
use Rattle.cts_notes.specs.declared.stop.Stop.TheVariants as stop
use Rattle.cts_notes.specs.Stops.{stop_status}
use Rattle.cts_draw.specs.declared.stop.NotText.{NotText}

-- the bytes are the text of this report, in the version of an instance with these parts
abbrev pub SpellsReport : Parts → List ℕ → Printed → Type 0
SpellsReport i bytes printed = Spells (IsReport (form_of i)) (report_lines i.version) bytes printed

-- the bytes are the text of no report, and this is the first line with which none begins
abbrev pub IsNoReport : Parts → List ℕ → ℕ → Type 0
IsNoReport i bytes line = IsNotText (IsReport (form_of i)) (report_lines i.version) bytes line

-- The input is not too long, and spells this instance and then this report, and nothing else.
pub record SpellsBoth (bytes : List ℕ) (i : Parts) (printed : Printed) : Type 0 where
  pub rest : List ℕ
  pub front : SpellsFront bytes i rest
  pub report : SpellsReport i rest printed

-- the text is the picture of what the input spells
abbrev pub IsPicture : List ℕ → List ℕ → Type 0
IsPicture bytes picture = (i : Parts) × (printed : Printed) × SpellsBoth bytes i printed × (picture ≡ picture_text i printed)

-- the statuses are those of the program for words
abbrev pub status_of : Result Unit (Stop NotText) → Status
status_of (Ok done) = status.Done
status_of (Err stop) = stop_status (λ reason. status.Refused) stop

-- What follows the instance, where a run stops for it: no text of a report.
abbrev pub ExplainsReport : Parts → List ℕ → Stop NotText → Type 0
ExplainsReport i bytes (stop.Own reason) = IsNoReport i bytes reason.line
ExplainsReport i bytes stop.NoMemory = Unit
ExplainsReport i bytes stop.Words = ⊥
ExplainsReport i bytes stop.TooLong = ⊥
ExplainsReport i bytes (stop.Refused line cause) = ⊥
ExplainsReport i bytes stop.ReadFault = ⊥
ExplainsReport i bytes stop.WriteFault = ⊥

-- What the bytes of an input must be where a run stops so: too long, or refused at this line for this cause, or followed by
-- no text of a report.
abbrev pub Explains : List ℕ → Stop NotText → Type 0
Explains bytes stop.TooLong = input_limit < length bytes
Explains bytes (stop.Refused line cause) = (length bytes ≤ input_limit) × (front_of bytes ≡ Err (line, cause))
Explains bytes (stop.Own reason) = (i : Parts) × (rest : List ℕ) × SpellsFront bytes i rest × IsNoReport i rest reason.line
Explains bytes stop.Words = Unit
Explains bytes stop.ReadFault = Unit
Explains bytes stop.WriteFault = Unit
Explains bytes stop.NoMemory = Unit

-- How a run ends that has an input and an output, and is asked with words or without. A picture is written whole, once the
-- input was read to its end; where none was, the input explains why, and the output is as it was but for a write fault.
pub record Draws {S K : Type 0} (left : S → Option (List ℕ)) (reads : S → ℕ) (held : K → Option (List ℕ)) (writes : K → ℕ)
    (has_words : Bool) (source source' : S) (sink sink' : K) (result : Result Unit (Stop NotText)) : Type 0 where
  pub words : IsErrOf result stop.Words ↔ (has_words ≡ true)
  pub untouched : IsErrOf result stop.Words → source' ≡ source
  pub done : IsOk result → IsAtEnd (left source')
      × IfSome (left source) (λ bytes. (text : List ℕ) × IsPicture bytes text × Appends (held sink) (held sink') text)
  pub write_fault : IsErrOf result stop.WriteFault → Rose (writes sink) (writes sink') × IsAtEnd (left source')
      × IfSome (left source) (λ bytes. (text : List ℕ) × (count : ℕ) × IsPicture bytes text
      × Appends (held sink) (held sink') (take count text))
  pub read_fault : IsErrOf result stop.ReadFault → Rose (reads source) (reads source')
  pub explained : IfErr result (λ end. IfSome (left source) (λ bytes. Explains bytes end))
  pub kept : IfErr result (λ end. end ≢ stop.WriteFault → sink' ≡ sink)
  pub source_counted : reads source ≤ reads source'
  pub sink_counted : writes sink ≤ writes sink'
