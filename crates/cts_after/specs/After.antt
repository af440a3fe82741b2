-- What an input spells, and how a run that tells the instance after a history ends.
use Rattle.std.specs.Prelude.{◌≡◌, ◌≢◌, ℕ, ◌<◌, ◌≤◌, ◌↔◌, Bool, true, List, length, take, Option, IfSome, Result, Ok, Err, IfOk, IfErr, IsErrOf}
use Rattle.std.specs.Io.KnownBytes.{Appends, IsAtEnd}
use Rattle.cts_io.specs.Faults.{Rose}
use Rattle.cts_instance.specs.declared.parts.Parts.{Parts}
use Rattle.cts_edit.specs.declared.edit.Entry.{Entry}
use Rattle.cts_history.specs.Opening.{Opens, OpensNone}
use Rattle.cts_notes.specs.Front.{SpellsFront, front_of, input_limit}
use Rattle.cts_notes.specs.declared.status.Status.{Status}
use Rattle.cts_notes.specs.declared.status.Status.TheVariants as status
use Rattle.cts_notes.specs.declared.stop.Stop.{Stop}
use Rattle.cts_notes.specs.declared.stop.Stop.TheVariants as stop
use Rattle.cts_notes.specs.Stops.{stop_status}
use Rattle.cts_after.specs.declared.outcome.Outcome.{Outcome}
use Rattle.cts_after.specs.declared.outcome.Answer.{Answer}
use Rattle.cts_after.specs.declared.outcome.Answer.TheVariants as answer
use Rattle.cts_after.specs.declared.stop.NotHistory.{NotHistory}
use Rattle.cts_after.specs.Outcomes.{IsOutcome, answer_of, text_of}

-- The input is not too long, and spells this instance, behind which stands a text that begins with this history.
pub record SpellsBoth (bytes : List ℕ) (i : Parts) (history : List Entry) : Type 0 where
  pub rest : List ℕ
  pub front : SpellsFront bytes i rest
  pub opens : Opens rest history

-- what the history that an input spells comes to on its instance
pub record ComesTo (bytes : List ℕ) (outcome : Outcome) : Type 0 where
  pub instance : Parts
  pub history : List Entry
  pub spells : SpellsBoth bytes instance history
  pub is_outcome : IsOutcome instance history outcome

-- the statuses are those of the program for words
abbrev pub status_of : Result Answer (Stop NotHistory) → Status
status_of (Ok answer.After) = status.Done
status_of (Ok answer.No) = status.No
status_of (Err stop) = stop_status (λ reason. status.Refused) stop

-- What follows the instance, where a run stops for it: the text of no history.
abbrev pub ExplainsRest : List ℕ → Stop NotHistory → Type 0
ExplainsRest rest (stop.Own reason) = OpensNone rest reason.line
ExplainsRest rest stop.NoMemory = Unit
ExplainsRest rest stop.Words = ⊥
ExplainsRest rest stop.TooLong = ⊥
ExplainsRest rest (stop.Refused line cause) = ⊥
ExplainsRest rest stop.ReadFault = ⊥
ExplainsRest rest stop.WriteFault = ⊥

-- What the bytes of an input must be where a run stops so: too long, or refused at this line for this cause, or with no
-- history behind the instance.
abbrev pub Explains : List ℕ → Stop NotHistory → Type 0
Explains bytes stop.TooLong = input_limit < length bytes
Explains bytes (stop.Refused line cause) = (length bytes ≤ input_limit) × (front_of bytes ≡ Err (line, cause))
Explains bytes (stop.Own reason) = (i : Parts) × (rest : List ℕ) × SpellsFront bytes i rest × OpensNone rest reason.line
Explains bytes stop.Words = Unit
Explains bytes stop.ReadFault = Unit
Explains bytes stop.WriteFault = Unit
Explains bytes stop.NoMemory = Unit

-- How a run ends that has an input and an output, and is asked with words or without. The text for what the input comes to is
-- written whole, once the input was read to its end; where none was, the input explains why, and the output is as it was but
-- for a write fault.
pub record Tells {S K : Type 0} (left : S → Option (List ℕ)) (reads : S → ℕ) (held : K → Option (List ℕ)) (writes : K → ℕ)
    (has_words : Bool) (source source' : S) (sink sink' : K) (result : Result Answer (Stop NotHistory)) : Type 0 where
  pub words : IsErrOf result stop.Words ↔ (has_words ≡ true)
  pub untouched : IsErrOf result stop.Words → source' ≡ source
  pub done : IfOk result (λ answer. IsAtEnd (left source')
      × IfSome (left source) (λ bytes. (outcome : Outcome) × ComesTo bytes outcome × (answer ≡ answer_of outcome)
      × Appends (held sink) (held sink') (text_of outcome)))
  pub write_fault : IsErrOf result stop.WriteFault → Rose (writes sink) (writes sink') × IsAtEnd (left source')
      × IfSome (left source) (λ bytes. (outcome : Outcome) × (count : ℕ) × ComesTo bytes outcome
      × Appends (held sink) (held sink') (take count (text_of outcome)))
  pub read_fault : IsErrOf result stop.ReadFault → Rose (reads source) (reads source')
  pub explained : IfErr result (λ end. IfSome (left source) (λ bytes. Explains bytes end))
  pub kept : IfErr result (λ end. end ≢ stop.WriteFault → sink' ≡ sink)
  pub source_counted : reads source ≤ reads source'
  pub sink_counted : writes sink ≤ writes sink'
