-- A whole script, line by line, and what each caller's part of it is.
use Rattle.std.specs.Prelude.{ℕ, nat_eq, List, [], ◌∷◌, ◌++◌, length, map, Option, Some, None, Result, Ok, Err, All}
use Rattle.std.specs.List.{filter, range_with_len}
use Rattle.cts_read.specs.declared.stop.Cause.TheVariants.{Missing}
use Rattle.cts_read.specs.Grammar.{◌>>=◌, Left, Refusal, at_line, item_at, left_in, line_at}
use Rattle.cts_read.specs.Whole.{rest_of}
use Rattle.cts_script.specs.declared.script.ScriptStep.{ScriptStep}
use Rattle.cts_script.specs.declared.step.ScriptLine.{ScriptLine}
use Rattle.cts_script.specs.declared.step.ScriptLine.TheVariants.{End, Step}
use Rattle.cts_script.specs.declared.step.Asked.{Asked}
use Rattle.cts_script.specs.Steps.{IsAct, callers_of, line_of}

-- the step that a line says, with the number of the line; or none at the end
abbrev pub asked_at : ℕ → ScriptLine → Option Asked
asked_at line End = None
asked_at line (Step caller act) = Some (record { caller = caller; step = record { line = line; act = act } })

-- the next line, which is a step after so many others or the end
unfoldable pub step_at : ℕ → ℕ → Left → Result (Option Asked × Left) Refusal
step_at callers before left = do
  next ← line_at left
  said ← at_line (next.0.0) (line_of callers before (next.0.1))
  Ok (asked_at (next.0.0) said, next.1)

-- the end, or one step more
abbrev pub go_on : {A : Type 0} → Option Asked → A → (Asked → A) → A
go_on None ends goes_on = ends
go_on (Some asked) ends goes_on = goes_on asked

-- the steps up to the end, after those before, where these lines are left and a missing one would have this number
unfoldable pub steps_in : ℕ → List Asked → List (ℕ × List ℕ) → ℕ → Result (List Asked × Left) Refusal
steps_in callers before [] missing = Err (missing, Missing)
steps_in callers before (next ∷ later) missing = do
  said ← at_line next.0 (line_of callers (length before) next.1)
  go_on (asked_at next.0 said) (Ok (before, record { lines = later; missing = missing }))
      (λ asked. steps_in callers (before ++ asked ∷ []) later missing)

-- the steps up to the end, after those before
abbrev pub steps_at : ℕ → List Asked → Left → Result (List Asked × Left) Refusal
steps_at callers before left = steps_in callers before left.lines left.missing

-- the steps of one caller, in the order of their lines
abbrev pub steps_of : ℕ → List Asked → List ScriptStep
steps_of caller asked = map (λ a. a.step) (filter (λ a. nat_eq a.caller caller) asked)

-- each caller's steps, of the callers from 1 on
abbrev pub scripts_of : ℕ → List Asked → List (List ScriptStep)
scripts_of callers asked = map (λ caller. steps_of caller asked) (range_with_len 1 callers)

-- each caller's steps, or the first line that offends with its first cause, where these lines are left
unfoldable pub script_at : Left → Result (List (List ScriptStep)) Refusal
script_at left = do
  callers ← item_at callers_of left
  asked ← steps_at callers.0 [] callers.1
  _ ← rest_of asked.1.lines
  Ok (scripts_of callers.0 asked.0)

-- the script that a text is, where so many lines came before it
abbrev pub script_of : ℕ → List ℕ → Result (List (List ScriptStep)) Refusal
script_of line text = script_at (left_in (record { rest = text; line = line }))

-- the acts of all steps are within the limits
abbrev pub AreWithin : List ScriptStep → Type 0
AreWithin steps = All (λ step. IsAct step.act) steps

-- the acts of all that was asked are
abbrev pub AreAsked : List Asked → Type 0
AreAsked asked = All (λ a. IsAct a.step.act) asked
