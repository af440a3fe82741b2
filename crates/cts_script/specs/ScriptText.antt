-- The canonical text of a script: one space between two words, each number in its canonical form at its places, and a line
-- feed after each line.
use Rattle.std.specs.Prelude.{ℕ, ◌+◌, ◌≤◌, List, [], ◌∷◌, ◌++◌, map, codes}
use Rattle.std.specs.List.{concat}
use Rattle.cts_num.specs.Decimal.{decimal_text}
use Rattle.cts_edit.specs.declared.edit.Edit.TheVariants.{Add, Remove, Move, SetCap}
use Rattle.cts_script.specs.declared.script.Act.{Act}
use Rattle.cts_script.specs.declared.script.Act.TheVariants.{Change, Draw}
use Rattle.cts_script.specs.declared.step.Asked.{Asked}
use Rattle.cts_script.specs.Steps.{IsAct}
use Rattle.cts_script.specs.Text.{coordinate, count_line, end_line, line_of}

-- the words of a step after the number of its caller; nm as µm, and zF as fF
abbrev pub act_words : Act → List (List ℕ)
act_words (Change (Add id x y c)) = codes "add" ∷ decimal_text 0 id ∷ coordinate x ∷ coordinate y ∷ decimal_text 6 c ∷ []
act_words (Change (Remove id)) = codes "remove" ∷ decimal_text 0 id ∷ []
act_words (Change (Move id x y)) = codes "move" ∷ decimal_text 0 id ∷ coordinate x ∷ coordinate y ∷ []
act_words (Change (SetCap id c)) = codes "cap" ∷ decimal_text 0 id ∷ decimal_text 6 c ∷ []
act_words Draw = codes "tree" ∷ []

-- a caller, and what it asks for
abbrev pub Ask : Type 0
Ask = ℕ × Act

abbrev pub step_line : Ask → List ℕ
step_line ask = line_of (decimal_text 0 ask.0) (act_words ask.1)

-- the text of so many callers and what they ask for, in this order
abbrev pub script_text : ℕ → List Ask → List ℕ
script_text callers asks = count_line (codes "callers") callers ++ concat (map step_line asks) ++ end_line

-- what is asked, by lines with the numbers from the one after `line` on
unfoldable pub numbered : ℕ → List Ask → List Asked
numbered line [] = []
numbered line (ask ∷ later) = record { caller = ask.0; step = record { line = line + 1; act = ask.1 } } ∷ numbered (line + 1) later

-- the caller is one of so many, and what it asks for is within the limits
pub record IsAsk (callers : ℕ) (ask : Ask) : Type 0 where
  pub some : 1 ≤ ask.0
  pub few : ask.0 ≤ callers
  pub within : IsAct ask.1
