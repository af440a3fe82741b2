-- A script of one caller who undoes and redoes its changes.
use Rattle.std.specs.Prelude.{ℕ, nat_eq, List, [], ◌∷◌, ◌++◌, length, codes, if◌then◌else◌, Option, Some, None, Result, Ok, Err, All}
use Rattle.std.specs.Str.{bytes_eq}
use Rattle.cts_instance.specs.declared.fault.Fault.{Fault as InstanceFault}
use Rattle.cts_instance.specs.declared.fault.Fault.TheVariants.{Range}
use Rattle.cts_instance.specs.declared.fault.Item.TheVariants as item
use Rattle.cts_instance.specs.FirstFault.{unless}
use Rattle.cts_read.specs.declared.stop.Cause.{Cause}
use Rattle.cts_read.specs.declared.stop.Cause.TheVariants.{NotAscii, Count, Missing}
use Rattle.cts_read.specs.Lines.{is_printable, words_of}
use Rattle.cts_read.specs.Grammar.{◌>>=◌, Left, Refusal, at_line, item_at, left_in, line_at, number_of, refuse}
use Rattle.cts_read.specs.Whole.{rest_of}
use Rattle.cts_script.specs.declared.script.Act.TheVariants.{Draw}
use Rattle.cts_script.specs.declared.step.ScriptLine.{ScriptLine}
use Rattle.cts_script.specs.declared.step.ScriptLine.TheVariants as said
use Rattle.cts_script.specs.declared.replay.ReplayAct.{ReplayAct}
use Rattle.cts_script.specs.declared.replay.ReplayAct.TheVariants.{Step, Undo, Redo}
use Rattle.cts_script.specs.declared.replay.ReplayStep.{ReplayStep}
use Rattle.cts_script.specs.Steps.{IsAct, callers_of, is_digits, limited, line_of}

-- there is one caller
unfoldable pub alone_fault : ℕ → Option InstanceFault
alone_fault callers = unless (nat_eq callers 1) (Range item.Callers) None

-- `callers 1`
unfoldable pub alone_of : List ℕ → Result Unit Cause
alone_of line = do
  callers ← callers_of line
  refuse (alone_fault callers)

-- two more words say what a step asks for
unfoldable pub moved_by : List ℕ → Option ReplayAct
moved_by word =
    if bytes_eq word (codes "undo") then Some Undo else (
    if bytes_eq word (codes "redo") then Some Redo else None)

-- a line with one of them in its second place, after a caller's number
unfoldable pub mover_of : List (List ℕ) → Option ReplayAct
mover_of [] = None
mover_of (caller ∷ []) = None
mover_of (caller ∷ word ∷ words) = if is_digits caller then moved_by word else None

-- It has two words, and the faults of a step that asks for a tree.
unfoldable pub moving_of : ℕ → List (List ℕ) → ReplayAct → Result (Option ReplayAct) Cause
moving_of before words act =
    if nat_eq (length words) 2 then
    (do
      caller ← number_of 0 words
      _ ← limited 1 before caller.0 (Some Draw)
      Ok (Some act))
    else Err Count

-- what a line of any script asks for; none at the end
abbrev pub stepped : ScriptLine → Option ReplayAct
stepped said.End = None
stepped (said.Step caller act) = Some (Step act)

-- a line of either kind
abbrev pub line_by : Option ReplayAct → ℕ → List ℕ → Result (Option ReplayAct) Cause
line_by (Some act) before line = moving_of before (words_of line) act
line_by None before line = do
  end_or_step ← line_of 1 before line
  Ok (stepped end_or_step)

-- what a line after the first one asks for, where so many steps stand before it; none at the end
unfoldable pub replay_line : ℕ → List ℕ → Result (Option ReplayAct) Cause
replay_line before line = if is_printable line then line_by (mover_of (words_of line)) before line else Err NotAscii

-- the step of a line
abbrev pub with_line : ℕ → Option ReplayAct → Option ReplayStep
with_line number None = None
with_line number (Some act) = Some (record { line = number; act = act })

-- the next line, which is a step after so many others or the end
unfoldable pub replay_step_at : ℕ → Left → Result (Option ReplayStep × Left) Refusal
replay_step_at before left = do
  next ← line_at left
  act ← at_line (next.0.0) (replay_line before (next.0.1))
  Ok (with_line (next.0.0) act, next.1)

-- the end, or one step more
abbrev pub replay_on : {A : Type 0} → Option ReplayStep → A → (ReplayStep → A) → A
replay_on None ends goes_on = ends
replay_on (Some step) ends goes_on = goes_on step

-- the steps up to the end, after those before, where these lines are left and a missing one would have this number
unfoldable pub replay_steps_in : List ReplayStep → List (ℕ × List ℕ) → ℕ → Result (List ReplayStep × Left) Refusal
replay_steps_in before [] missing = Err (missing, Missing)
replay_steps_in before (next ∷ later) missing = do
  act ← at_line next.0 (replay_line (length before) next.1)
  replay_on (with_line next.0 act) (Ok (before, record { lines = later; missing = missing }))
      (λ step. replay_steps_in (before ++ step ∷ []) later missing)

-- the steps up to the end, after those before
abbrev pub replay_steps_at : List ReplayStep → Left → Result (List ReplayStep × Left) Refusal
replay_steps_at before left = replay_steps_in before left.lines left.missing

-- the steps, or the first line that offends with its first cause, where these lines are left
unfoldable pub replay_at : Left → Result (List ReplayStep) Refusal
replay_at left = do
  alone ← item_at alone_of left
  steps ← replay_steps_at [] alone.1
  _ ← rest_of steps.1.lines
  Ok steps.0

-- the replay that a text is, where so many lines came before it
abbrev pub replay_of : ℕ → List ℕ → Result (List ReplayStep) Refusal
replay_of line text = replay_at (left_in (record { rest = text; line = line }))

-- what a step asks for is within the limits
abbrev pub IsReplayed : ReplayAct → Type 0
IsReplayed (Step act) = IsAct act
IsReplayed Undo = Unit {0}
IsReplayed Redo = Unit {0}

-- so is what all steps ask for
abbrev pub AreReplayed : List ReplayStep → Type 0
AreReplayed steps = All (λ step. IsReplayed step.act) steps
