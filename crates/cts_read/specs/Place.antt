-- Where reading stands in a text.
use Rattle.std.specs.Prelude.{◌≡◌, ℕ, ◌-◌, ◌≤◌, ◌⊎◌, List, ◌++◌, length, drop}
use Rattle.cts_io.specs.Lines.{IsLineEnd, lines_of}

pub record Place : Type 0 where
  pub text : List ℕ  -- the whole text
  pub rest : List ℕ  -- the bytes of the lines that are left
  pub line : ℕ  -- how many lines came before them

-- The rest comes right after the end of a line of the text.
abbrev pub IsAfterLine : List ℕ → List ℕ → Type 0
IsAfterLine text rest = (front : List ℕ) × (end : List ℕ) × IsLineEnd end rest × (text ≡ front ++ end ++ rest)

-- the rest is the end of the text, and its lines are the last lines of the text
pub record IsPlace (place : Place) : Type 0 where
  pub within : length place.rest ≤ length place.text
  pub rest : drop (length place.text - length place.rest) place.text ≡ place.rest
  pub lines : lines_of place.rest ≡ drop place.line (lines_of place.text)
  pub passed : place.line ≤ length (lines_of place.text)
  pub after : (place.line ≡ 0) ⊎ IsAfterLine place.text place.rest
