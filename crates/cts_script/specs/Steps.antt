-- The lines of a script: what each says, or its first cause.
use Rattle.std.specs.Prelude.{ℕ, ◌^◌, ◌<◌, ◌≤◌, Bool, ◌&&◌, nat_eq, nat_le, pos, List, [], ◌∷◌, length, codes, if◌then◌else◌, Option, Some, None, Result, Ok, Err}
use Rattle.std.specs.Str.{bytes_eq}
use Rattle.std.specs.Char.{is_ascii_digit}
use Rattle.std.specs.List.{list_all}
use Rattle.cts_instance.specs.declared.fault.Fault.{Fault as InstanceFault}
use Rattle.cts_instance.specs.declared.fault.Fault.TheVariants.{Range, TooMany}
use Rattle.cts_instance.specs.declared.fault.Item.TheVariants as item
use Rattle.cts_instance.specs.FirstFault.{unless}
use Rattle.cts_edit.specs.declared.edit.Edit.TheVariants as edit
use Rattle.cts_edit.specs.Edits.{IsEdit}
use Rattle.cts_read.specs.declared.stop.Cause.{Cause}
use Rattle.cts_read.specs.declared.stop.Cause.TheVariants.{NotAscii, Word, Count, Fault}
use Rattle.cts_read.specs.Lines.{is_printable, words_of}
use Rattle.cts_read.specs.Grammar.{◌>>=◌, fields_of, number_of, refuse}
use Rattle.cts_script.specs.declared.script.Act.{Act}
use Rattle.cts_script.specs.declared.script.Act.TheVariants.{Change, Draw}
use Rattle.cts_script.specs.declared.step.StepKind.{StepKind}
use Rattle.cts_script.specs.declared.step.StepKind.TheVariants as kind
use Rattle.cts_script.specs.declared.step.ScriptLine.{ScriptLine}
use Rattle.cts_script.specs.declared.step.ScriptLine.TheVariants.{End, Step}

-- there are from 1 to 16 callers
unfoldable pub callers_fault : ℕ → Option InstanceFault
callers_fault callers = unless (nat_le 1 callers && nat_le callers 16) (Range item.Callers) None

-- so many callers there can be
pub record IsCallerCount (callers : ℕ) : Type 0 where
  pub some : 1 ≤ callers
  pub few : callers ≤ 16

-- `callers N`
unfoldable pub callers_of : List ℕ → Result ℕ Cause
callers_of line = do
  words ← fields_of (codes "callers") 1 line
  callers ← number_of 0 words
  _ ← refuse (callers_fault callers.0)
  Ok callers.0

-- a kind of step goes by one of five words
unfoldable pub kind_of : List ℕ → Option StepKind
kind_of word =
    if bytes_eq word (codes "add") then Some kind.Add else (
    if bytes_eq word (codes "remove") then Some kind.Remove else (
    if bytes_eq word (codes "move") then Some kind.Move else (
    if bytes_eq word (codes "cap") then Some kind.Cap else (
    if bytes_eq word (codes "tree") then Some kind.Tree else None))))

-- how many numbers follow the word
abbrev pub numbers_after : StepKind → ℕ
numbers_after kind.Add = 4
numbers_after kind.Remove = 1
numbers_after kind.Move = 3
numbers_after kind.Cap = 2
numbers_after kind.Tree = 0

-- as many words follow as the kind has numbers
abbrev pub counted : Option StepKind → List (List ℕ) → Result (StepKind × List (List ℕ)) Cause
counted None words = Err Word
counted (Some kind) words = if nat_eq (length words) (numbers_after kind) then Ok (kind, words) else Err Count

-- what follows the caller's number: the kind, and the words of its numbers
unfoldable pub kind_at : List (List ℕ) → Result (StepKind × List (List ℕ)) Cause
kind_at [] = Err Count
kind_at (word ∷ words) = counted (kind_of word) words

-- an id is at most 999,999,999
abbrev pub is_id : ℕ → Bool
is_id id = nat_le id 999999999

-- a coordinate is at most 10^8 nm
abbrev pub is_coordinate : ℕ → Bool
is_coordinate z = nat_le z (10 ^ 8)

-- a capacitance is at most 10^12 zF
abbrev pub is_cap : ℕ → Bool
is_cap c = nat_le c (10 ^ 12)

-- an act whose numbers are within the limits, or none
abbrev pub where_within : Bool → Act → Option Act
where_within within act = if within then Some act else None

-- `ID X Y CAP`, in nm and zF
unfoldable pub add_of : List (List ℕ) → Result (Option Act) Cause
add_of words = do
  id ← number_of 0 words
  x ← number_of 3 id.1
  y ← number_of 3 x.1
  load ← number_of 6 y.1
  Ok (where_within (is_id id.0 && is_coordinate x.0 && is_coordinate y.0 && is_cap load.0)
      (Change (edit.Add id.0 (pos x.0) (pos y.0) load.0)))

-- `ID`
unfoldable pub remove_of : List (List ℕ) → Result (Option Act) Cause
remove_of words = do
  id ← number_of 0 words
  Ok (where_within (is_id id.0) (Change (edit.Remove id.0)))

-- `ID X Y`, in nm
unfoldable pub move_of : List (List ℕ) → Result (Option Act) Cause
move_of words = do
  id ← number_of 0 words
  x ← number_of 3 id.1
  y ← number_of 3 x.1
  Ok (where_within (is_id id.0 && is_coordinate x.0 && is_coordinate y.0) (Change (edit.Move id.0 (pos x.0) (pos y.0))))

-- `ID CAP`, in zF
unfoldable pub cap_of : List (List ℕ) → Result (Option Act) Cause
cap_of words = do
  id ← number_of 0 words
  load ← number_of 6 id.1
  Ok (where_within (is_id id.0 && is_cap load.0) (Change (edit.SetCap id.0 load.0)))

-- the numbers of a kind; a tree has none
unfoldable pub act_of : StepKind → List (List ℕ) → Result (Option Act) Cause
act_of kind.Add words = add_of words
act_of kind.Remove words = remove_of words
act_of kind.Move words = move_of words
act_of kind.Cap words = cap_of words
act_of kind.Tree words = Ok (Some Draw)

-- the step after so many others is out of range
abbrev pub out_of_range : ℕ → Cause
out_of_range before = Fault (Range (item.Step before))

-- an act of a caller, where it's within the limits
abbrev pub step_within : ℕ → ℕ → Option Act → Result ScriptLine Cause
step_within before caller None = Err (out_of_range before)
step_within before caller (Some act) = Ok (Step caller act)

-- A step after so many others. There are at most 65,536, and the callers have the numbers from 1 on.
unfoldable pub limited : ℕ → ℕ → ℕ → Option Act → Result ScriptLine Cause
limited callers before caller act =
    if nat_le 65536 before then Err (Fault (TooMany (item.Step 65536))) else (
    if nat_le 1 caller && nat_le caller callers then step_within before caller act else Err (out_of_range before))

-- A step: the number of its caller, and its kind with its numbers. The words are counted before any number is read.
unfoldable pub step_of : ℕ → ℕ → List (List ℕ) → List (List ℕ) → Result ScriptLine Cause
step_of callers before words after_caller = do
  kind ← kind_at after_caller
  caller ← number_of 0 words
  act ← act_of kind.0 kind.1
  limited callers before caller.0 act

-- `end`
abbrev pub end_of : List (List ℕ) → Result ScriptLine Cause
end_of [] = Ok End
end_of (word ∷ words) = Err Count

-- a word of digits alone
abbrev pub is_digits : List ℕ → Bool
is_digits word = list_all is_ascii_digit word

-- the words of a line after the first one of a script
unfoldable pub said_by : ℕ → ℕ → List (List ℕ) → Result ScriptLine Cause
said_by callers before [] = Err Word
said_by callers before (word ∷ words) =
    if bytes_eq word (codes "end") then end_of words else (
    if is_digits word then step_of callers before (word ∷ words) words else Err Word)

-- What a line after the first one of a script says, where there are so many callers and so many steps stand before it: the
-- end, or a step.
unfoldable pub line_of : ℕ → ℕ → List ℕ → Result ScriptLine Cause
line_of callers before line = if is_printable line then said_by callers before (words_of line) else Err NotAscii

-- an act is within the limits
abbrev pub IsAct : Act → Type 0
IsAct (Change edit) = IsEdit edit
IsAct Draw = Unit {0}

-- what a line says after so many steps: a step is within the limits, and there was room for it
abbrev pub IsLine : ℕ → ScriptLine → Type 0
IsLine before End = Unit {0}
IsLine before (Step caller act) = (before < 65536) × IsAct act
