-- How a form reads its input, and what the input has to do with how a run on it ends.
use Rattle.std.specs.Prelude.{◌≡◌, ℕ, ◌<◌, ◌≤◌, ◌⊎◌, List, [], length, Option, None, Some, IfSome, Result, Err}
use Rattle.cts_instance.specs.declared.parts.Parts.{Parts}
use Rattle.cts_read.specs.Grammar.{Refusal}
use Rattle.cts_read.specs.declared.stop.Cause.{Cause}
use Rattle.cts_script.specs.declared.script.ScriptStep.{ScriptStep}
use Rattle.cts_script.specs.declared.replay.ReplayStep.{ReplayStep}
use Rattle.cts_notes.specs.Front.{SpellsFront, front_of, input_limit}
use Rattle.cts_notes.specs.Notes.{refusal_note, too_long_note}
use Rattle.cts_top.specs.declared.stop.Stop.{Stop}
use Rattle.cts_top.specs.declared.stop.Stop.TheVariants as stop
use Rattle.cts_top.specs.declared.words.Form.{Form}
use Rattle.cts_top.specs.declared.words.Form.TheVariants.{Synth, Check, Edit, Make, Job, Trunk, Near, Replay}
use Rattle.cts_top.specs.Input.{Spells, SpellsFew, SpellsMany, SpellsScripts, input_of, scripted_of}
use Rattle.cts_top.specs.Notes.{many_note}
use Rattle.cts_top.specs.Replay.{SpellsReplay, replayed_of}
use Rattle.cts_top.specs.Streams.{IsReadWhole, IsUntouched, Stream}

-- how an input is read: as an instance and nothing after it, as one of few enough sinks for a nearest-pair topology, as an
-- instance and then a report, as an instance and then scripts, as an instance and then the steps of a replay, or not at all
pub data Reading : Type 0 where
  whole : Reading
  few : Reading
  front : Reading
  scripted : Reading
  replayed : Reading
  nothing : Reading

-- how each form reads its input
abbrev pub reads : Form → Reading
reads (Synth workers) = whole
reads Check = front
reads Edit = scripted
reads Near = few
reads Replay = replayed
reads (Make seed sinks) = nothing
reads (Job seed sinks workers) = nothing
reads (Trunk step buffer) = whole

-- whether an input is read
abbrev pub ReadsInput : Reading → Type 0
ReadsInput nothing = ⊥
ReadsInput _ = Unit

-- of the bytes that were left in the input, where it is read and tells them; and of no bytes where no input is read
abbrev pub OfInput : Reading → Option (List ℕ) → (List ℕ → Type 0) → Type 0
OfInput nothing left P = P []
OfInput _ left P = IfSome left P

-- an input that is read was read to its end, and another is as it was
abbrev pub HasRead : {S : Type 0} → Reading → Stream S → Type 0
HasRead nothing source = IsUntouched source
HasRead _ source = IsReadWhole source

-- an input that is not read is as it was
abbrev pub LeavesOthers : {S : Type 0} → Reading → Stream S → Type 0
LeavesOthers nothing source = IsUntouched source
LeavesOthers _ source = Unit

-- The input can be read so: it spells an instance, or one of few enough sinks, or begins with one, or spells one with scripts or
-- a replay after it. Where no input is read nothing is asked of it.
abbrev pub IsReadable : Reading → List ℕ → Type 0
IsReadable whole bytes = (i : Parts) × Spells bytes i
IsReadable few bytes = (i : Parts) × SpellsFew bytes i
IsReadable front bytes = (i : Parts) × (rest : List ℕ) × SpellsFront bytes i rest
IsReadable scripted bytes = (i : Parts) × (scripts : List (List ScriptStep)) × SpellsScripts bytes i scripts
IsReadable replayed bytes = (i : Parts) × (asked : List ReplayStep) × SpellsReplay bytes i asked
IsReadable nothing bytes = Unit

-- the input can't be read so
abbrev pub RefusesInput : Reading → List ℕ → Type 0
RefusesInput reading bytes = IsReadable reading bytes → ⊥

-- a run that reads nothing does not stop for its input
abbrev pub DoesNotRead : Stop → Type 0
DoesNotRead stop.TooLong = ⊥
DoesNotRead stop.Many = ⊥
DoesNotRead (stop.Refused line cause) = ⊥
DoesNotRead stop.ReadFault = ⊥
DoesNotRead stop.Words = Unit
DoesNotRead stop.WriteFault = Unit
DoesNotRead stop.NoMemory = Unit

-- What the bytes of an input must be where a run that reads it so stops: too long, or refused at this line for this cause.
abbrev pub ExplainsBy : {A : Type 0} → (List ℕ → Result A Refusal) → Stop → List ℕ → Type 0
ExplainsBy read stop.TooLong bytes = input_limit < length bytes
ExplainsBy read (stop.Refused line cause) bytes = (length bytes ≤ input_limit) × (read bytes ≡ Err (line, cause))
ExplainsBy read stop.Many bytes = ⊥
ExplainsBy read stop.Words bytes = Unit
ExplainsBy read stop.ReadFault bytes = Unit
ExplainsBy read stop.WriteFault bytes = Unit
ExplainsBy read stop.NoMemory bytes = Unit

-- The same where few sinks are asked for: too many are the last cause, once all that the input spells was accepted.
abbrev pub ExplainsFew : Stop → List ℕ → Type 0
ExplainsFew stop.Many bytes = SpellsMany bytes
ExplainsFew end bytes = ExplainsBy input_of end bytes

-- What the bytes that were left must be where a run stops so. Where no input is read a run does not stop so.
abbrev pub Explains : Reading → Stop → List ℕ → Type 0
Explains whole end bytes = ExplainsBy input_of end bytes
Explains few end bytes = ExplainsFew end bytes
Explains front end bytes = ExplainsBy front_of end bytes
Explains scripted end bytes = ExplainsBy scripted_of end bytes
Explains replayed end bytes = ExplainsBy replayed_of end bytes
Explains nothing end bytes = DoesNotRead end

-- The note of a refused input says that it is too long exactly where it is; else it names the first line that offends and
-- its first cause, as the input is read. Where the source tells no bytes it is one of the two.
abbrev pub NamesRefusal : {A : Type 0} → (List ℕ → Result A Refusal) → Option (List ℕ) → List ℕ → Type 0
NamesRefusal read None note = (note ≡ too_long_note) ⊎ ((line : ℕ) × (cause : Cause) × (note ≡ refusal_note line cause))
NamesRefusal read (Some bytes) note =
    ((input_limit < length bytes) × (note ≡ too_long_note))
    ⊎ ((length bytes ≤ input_limit) × (line : ℕ) × (cause : Cause) × (read bytes ≡ Err (line, cause)) × (note ≡ refusal_note line cause))

-- the note that says that there are too many sinks: where the input tells its bytes, they spell an instance with so many
abbrev pub NamesMany : Option (List ℕ) → List ℕ → Type 0
NamesMany left note = IfSome left SpellsMany × (note ≡ many_note)

abbrev pub IsRefusalNote : Reading → Option (List ℕ) → List ℕ → Type 0
IsRefusalNote whole left note = NamesRefusal input_of left note
IsRefusalNote few left note = NamesRefusal input_of left note ⊎ NamesMany left note
IsRefusalNote front left note = NamesRefusal front_of left note
IsRefusalNote scripted left note = NamesRefusal scripted_of left note
IsRefusalNote replayed left note = NamesRefusal replayed_of left note
IsRefusalNote nothing left note = ⊥
