-- What it is for a function on bytes to read a part of a line, or some lines, of a text of what is printed.
use Rattle.std.specs.Prelude.{◌≡◌, ℕ, ◌+◌, Bool, false, List, [], ◌∷◌, ◌++◌, length, Option, Some, None, Result, Ok, Err, ◌==◌, ◌||◌}
use Rattle.std.specs.Char.{is_ascii_digit}
use Rattle.std.specs.List.{concat}
use Rattle.cts_report_reader.specs.Text.{Begins, Spells, IsNotText}

-- a value from the front of the bytes, and what is left of them
abbrev pub PartReader : Type 0 → Type 0
PartReader A = List ℕ → Option (A × List ℕ)

-- the same, or the number of the line that went wrong
abbrev pub LinesReader : Type 0 → Type 0
LinesReader A = List ℕ → Result (A × List ℕ) ℕ

-- a number is written with digits and points
abbrev pub is_number_byte : ℕ → Bool
is_number_byte byte = is_ascii_digit byte || byte == 46

-- a number that was read before ends here
abbrev pub IsStop : List ℕ → Type 0
IsStop [] = Unit {0}
IsStop (byte ∷ rest) = is_number_byte byte ≡ false

-- whatever follows
abbrev pub IsAny : List ℕ → Type 0
IsAny rest = Unit {0}

-- A part of a line: what it reads fits and is its text, and the text of each value that fits is read as that value, where
-- what follows lets the part end.
pub record IsPart {A : Type 0} (Ends : List ℕ → Type 0) (Fits : A → Type 0) (text : A → List ℕ) (read : PartReader A) : Type 0 where
  pub takes : (bytes : List ℕ) (value : A) (rest : List ℕ) → read bytes ≡ Some (value, rest) → Fits value × (bytes ≡ text value ++ rest)
  pub again : (value : A) (rest : List ℕ) → Fits value → Ends rest → read (text value ++ rest) ≡ Some (value, rest)

-- Where the lines of some text go wrong: at one of them.
pub record Stops {A : Type 0} (Fits : A → Type 0) (lines : A → List (List ℕ)) (at : ℕ) (bytes : List ℕ) (line : ℕ) : Type 0 where
  pub count : ℕ
  pub line_is : line ≡ at + count + 1
  pub begun : Begins Fits lines bytes count
  pub ended : ¬ Begins Fits lines bytes (count + 1)

-- Some lines, which come after `at` others: what they read fits and is its text, the text of each value that fits is read
-- as that value, and else the line is named with which no text begins.
pub record IsPiece {A : Type 0} (Fits : A → Type 0) (lines : A → List (List ℕ)) (at : ℕ) (read : LinesReader A) : Type 0 where
  pub takes : (bytes : List ℕ) (value : A) (rest : List ℕ) → read bytes ≡ Ok (value, rest)
      → Fits value × (bytes ≡ concat (lines value) ++ rest)
  pub again : (value : A) (rest : List ℕ) → Fits value → read (concat (lines value) ++ rest) ≡ Ok (value, rest)
  pub stops : (bytes : List ℕ) (line : ℕ) → read bytes ≡ Err line → Stops Fits lines at bytes line
  pub ends : (bytes : List ℕ) (value : A) (rest : List ℕ) → read bytes ≡ Ok (value, rest)
      → ¬ Begins Fits lines bytes (length (lines value) + 1)

infixl 10 ◌>>=◌
abbrev pub ◌>>=◌ : {A B E : Type 0} → Result A E → (A → Result B E) → Result B E
(Ok x) >>= f = f x
(Err e) >>= f = Err e

-- one line, which comes after `at` others
abbrev pub at_line : {A : Type 0} → ℕ → Option A → Result A ℕ
at_line at (Some x) = Ok x
at_line at None = Err (at + 1)

-- what is read where the bytes have to end with it: a line that follows them is the first that goes wrong
abbrev pub to_the_end : {A : Type 0} → (A → List (List ℕ)) → A → List ℕ → Result A ℕ
to_the_end lines value [] = Ok value
to_the_end lines value (byte ∷ rest) = Err (length (lines value) + 1)

unfoldable pub whole_of : {A : Type 0} → (A → List (List ℕ)) → LinesReader A → List ℕ → Result A ℕ
whole_of lines read bytes = do
  found ← read bytes
  to_the_end lines found.0 found.1

-- the answer for the bytes: the value whose text they are, or the line that goes wrong
abbrev pub IsWholeReading : {A : Type 0} → (A → Type 0) → (A → List (List ℕ)) → List ℕ → Result A ℕ → Type 0
IsWholeReading Fits lines bytes (Ok value) = Spells Fits lines bytes value
IsWholeReading Fits lines bytes (Err line) = IsNotText Fits lines bytes line
