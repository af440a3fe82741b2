-- What a history comes to on an instance: the instance after it, or the first entry that the rule of edits refuses.
use Rattle.std.specs.Prelude.{◌≡◌, ℕ, ◌+◌, List, [], ◌∷◌, codes, take, slice_get, Some}
use Rattle.cts_instance.specs.declared.parts.Parts.{Parts}
use Rattle.cts_instance.specs.Validity.{with_sinks}
use Rattle.cts_edit.specs.declared.edit.EditCause.{EditCause}
use Rattle.cts_edit.specs.declared.edit.Entry.{Entry}
use Rattle.cts_edit.specs.Edits.{after}
use Rattle.cts_edit.specs.Decide.{decide}
use Rattle.cts_edit.specs.Sound.{IsSound}
use Rattle.cts_script.specs.Text.{instance_text, line_of}
use Rattle.cts_history.specs.History.{cause_words, whole}
use Rattle.cts_after.specs.declared.outcome.Outcome.{Outcome}
use Rattle.cts_after.specs.declared.outcome.Outcome.TheVariants.{Made, Refused}
use Rattle.cts_after.specs.declared.outcome.Answer.{Answer}
use Rattle.cts_after.specs.declared.outcome.Answer.TheVariants as answer

-- The rule of edits refuses the entry of this number, counted from 1, and none before it: those were accepted, each after
-- the ones before it.
pub record IsRefusedAt (base : Parts) (history : List Entry) (number : ℕ) (cause : EditCause) : Type 0 where
  pub before : ℕ
  pub next : number ≡ before + 1
  pub sound : IsSound base (take before history)
  pub entry : Entry
  pub here : slice_get history before ≡ Some entry
  pub refused : decide base (take before history) entry.edit ≡ Some cause

-- the instance with the sinks after a history
abbrev pub instance_after : Parts → List Entry → Parts
instance_after base history = with_sinks base (after base.sinks history)

-- what a history comes to
abbrev pub IsOutcome : Parts → List Entry → Outcome → Type 0
IsOutcome base history (Made instance) = IsSound base history × (instance ≡ instance_after base history)
IsOutcome base history (Refused number cause) = IsRefusedAt base history number cause

-- the line that names the entry that is refused
unfoldable pub no_line : ℕ → EditCause → List ℕ
no_line number cause = line_of (codes "no: entry") (whole number ∷ cause_words cause ∷ [])

-- what is written of it
abbrev pub text_of : Outcome → List ℕ
text_of (Made instance) = instance_text instance
text_of (Refused number cause) = no_line number cause

-- and which of the two it is
abbrev pub answer_of : Outcome → Answer
answer_of (Made instance) = answer.After
answer_of (Refused number cause) = answer.No
