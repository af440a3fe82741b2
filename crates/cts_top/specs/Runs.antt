-- What a run does, for the forms that it serves: how its words are answered, and what its caller can rely on.
use Rattle.std.specs.Prelude.{◌≡◌, ◌≢◌, ◌↔◌, ◌⊎◌, ℕ, List, Result, Ok, IfErr, IsErrOf}
use Rattle.cts_top.specs.declared.stop.Answer.{Answer}
use Rattle.cts_top.specs.declared.stop.Stop.{Stop}
use Rattle.cts_top.specs.declared.stop.Stop.TheVariants as stop
use Rattle.cts_notes.specs.declared.status.Status.{Status}
use Rattle.cts_notes.specs.declared.status.Status.TheVariants.{Words, Refused, ReadFault, WriteFault, NoMemory}
use Rattle.cts_top.specs.declared.words.Form.{Form}
use Rattle.cts_top.specs.Kinds.{HasKind}
use Rattle.cts_top.specs.Log.{Log}
use Rattle.cts_top.specs.Notes.{note_of}
use Rattle.cts_top.specs.Outcome.{IsNote, Serves, status_of}
use Rattle.cts_top.specs.Reading.{HasRead, LeavesOthers, OfInput, ReadsInput, RefusesInput, reads}
use Rattle.cts_top.specs.Right.{IsRight, IsRightKind}
use Rattle.cts_top.specs.Streams.{Failed, Grew, GrewBy, IsUntouched, KeepsCount, Stream, told_after, told_before}
use Rattle.cts_top.specs.Written.{IsAnswered, IsAnsweredInPart}

-- How words are answered, where `Asks` says which of the forms that are served they ask for, and the log is that of the
-- callers. The notes aren't written yet.
pub record AnswersWords {S K : Type 0} (Asks : Form → Type 0) (log : Log) (source : Stream S) (sink : Stream K)
    (ending : Result Answer Stop) : Type 0 where
  pub served : IsErrOf ending stop.Words ↔ ((form : Form) → Asks form → ⊥)
  pub untouched : IsErrOf ending stop.Words → IsUntouched source
  pub serves : (form : Form) → Asks form → Serves log form source sink ending
  pub write_fault : IsErrOf ending stop.WriteFault → Failed sink
  pub kept : IfErr ending (λ end. end ≢ stop.WriteFault → IsUntouched sink)
  pub note : IsNote Asks (told_before source) (status_of ending) (note_of ending)
  pub source_counted : KeepsCount source
  pub sink_counted : KeepsCount sink

-- What a run does to its input, its output and its notes, and which status it has, where `Asks` says which of the forms
-- that are served its words ask for, and the log is that of its callers. Bytes are those that the input tells to be left, and
-- those that the output and the notes tell that they hold.
pub record Runs {S K N : Type 0} (Asks : Form → Type 0) (log : Log) (source : Stream S) (sink : Stream K) (notes : Stream N)
    (status : Status) : Type 0 where
  -- The words ask for one form, or for none.
  pub words : (status ≡ Words) ↔ ((form : Form) → Asks form → ⊥)
  pub untouched : status ≡ Words → IsUntouched source
  pub others : (form : Form) → Asks form → LeavesOthers (reads form) source
  -- At the status of an answer, the right text of the form and of this kind, once its input was read to its end, and nothing
  -- else.
  pub answered : (form : Form) → Asks form → (kind : Answer) → status ≡ status_of (Ok kind)
      → HasRead (reads form) source
      × OfInput (reads form) (told_before source) (λ bytes. IsAnswered (IsRight log form bytes) kind (told_before sink) (told_after sink))
  -- Each kind of answer comes on the forms that may have it alone, whatever the input tells.
  pub kinds : (form : Form) → Asks form → (kind : Answer) → status ≡ status_of (Ok kind) → HasKind form kind
  pub refused : (form : Form) → Asks form → status ≡ Refused → OfInput (reads form) (told_before source) (RefusesInput (reads form))
  pub read_fault : (form : Form) → Asks form → status ≡ ReadFault → ReadsInput (reads form) × Failed source
  pub write_fault : status ≡ WriteFault → Failed sink
  pub in_part : (form : Form) → Asks form → status ≡ WriteFault
      → HasRead (reads form) source
      × OfInput (reads form) (told_before source) (λ bytes. IsAnsweredInPart (IsRight log form bytes) (told_before sink) (told_after sink))
  pub sink_kept : ((kind : Answer) → status ≢ status_of (Ok kind)) → status ≢ WriteFault → IsUntouched sink
  pub source_counted : KeepsCount source
  pub sink_counted : KeepsCount sink
  pub notes_counted : KeepsCount notes
  -- Where nothing failed, a form is answered by its right text, unless memory ran out ..
  pub complete : (form : Form) → Asks form → (ReadsInput (reads form) → ¬ Failed source) → ¬ Failed sink
      → OfInput (reads form) (told_before source) (λ bytes. (kind : Answer) → IsRightKind log form bytes kind
      → (status ≡ status_of (Ok kind)) ⊎ (status ≡ NoMemory))
  -- .. and an input that can't be read is refused.
  pub refuses : (form : Form) → Asks form → (ReadsInput (reads form) → ¬ Failed source)
      → OfInput (reads form) (told_before source) (λ bytes. RefusesInput (reads form) bytes → (status ≡ Refused) ⊎ (status ≡ NoMemory))
  -- The notes get one line or nothing, by the status: whole where they do not fail, and a front of it where they do.
  pub note : (text : List ℕ) × IsNote Asks (told_before source) status text × (¬ Failed notes → Grew notes text) × GrewBy notes text
