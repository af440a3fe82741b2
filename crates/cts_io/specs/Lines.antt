-- The lines of a text.
use Rattle.std.specs.Prelude.{◌≡◌, ◌≢◌, ℕ, ◌-◌, ◌≤◌, ◌⊎◌, ◌++◌, ◌==◌, if◌then◌else◌, List, [], ◌∷◌, length, map, slice_index, All}
use Rattle.std.specs.List.{onto_first}
use Rattle.std.specs.Str.Lines.{strip_carriage_return}

-- the pieces of a text that end with an LF each, without it, and what follows the last LF, unless that is nothing
abbrev pub pieces_of : List ℕ → List (List ℕ)
pieces_of [] = []
pieces_of (b ∷ bs) = if b == 10 then [] ∷ pieces_of bs else onto_first b (pieces_of bs)

-- A line ends with LF, with CR LF, with a CR that is the last byte of the text, or with the end of the text. One CR at most
-- belongs to a line's end, and a CR anywhere else to the line. An empty text has no lines, and a text that ends with LF or
-- CR has no further line after it.
abbrev pub lines_of : List ℕ → List (List ℕ)
lines_of text = map strip_carriage_return (pieces_of text)

-- these bytes end a line, where `rest` comes after them
abbrev pub IsLineEnd : List ℕ → List ℕ → Type 0
IsLineEnd end rest = (end ≡ 10 ∷ []) ⊎ ((end ≡ 13 ∷ 10 ∷ []) ⊎ ((rest ≡ []) × ((end ≡ 13 ∷ []) ⊎ (end ≡ []))))

-- a line without LF that does not end with CR comes back from a text in which an LF ends it
abbrev pub LinesComeBack : Type 0
LinesComeBack =
    (line rest : List ℕ) → All (λ b. b ≢ 10) line → slice_index line (length line - 1) ≢ 13
    → lines_of (line ++ 10 ∷ rest) ≡ line ∷ lines_of rest

-- a text has no more lines than bytes
abbrev pub NoMoreLinesThanBytes : Type 0
NoMoreLinesThanBytes = (text : List ℕ) → length (lines_of text) ≤ length text

-- what contracts see of a cursor over lines
pub record LinesLeft : Type 0 where
  pub rest : List ℕ  -- the bytes of the lines that are left
  pub line : ℕ  -- the number of the line before them
