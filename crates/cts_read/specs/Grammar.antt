-- The lines of a text against the lines of a grammar.
use Rattle.std.specs.Prelude.{◌≡◌, ℕ, ◌+◌, not, nat_eq, if◌then◌else◌, List, [], ◌∷◌, length, Option, None, Some, Result, Ok, Err}
use Rattle.std.specs.Str.{bytes_eq}
use Rattle.cts_io.specs.Lines.{LinesLeft, lines_of}
use Rattle.cts_num.specs.declared.read.DecimalFault.{DecimalFault}
use Rattle.cts_num.specs.Reading.{reading_of}
use Rattle.cts_instance.specs.declared.fault.Fault.{Fault as InstanceFault}
use Rattle.cts_read.specs.declared.stop.Cause.{Cause}
use Rattle.cts_read.specs.declared.stop.Cause.TheVariants.{NotAscii, Word, Count, Number, Missing, Fault}
use Rattle.cts_read.specs.declared.stop.ReadStop.{ReadStop}
use Rattle.cts_read.specs.declared.stop.ReadStop.TheVariants.{Refused, NoMemory}
use Rattle.cts_read.specs.Place.{Place}
use Rattle.cts_read.specs.Lines.{is_printable, is_skipped, words_of}

-- The lines that are left and are not skipped, each with its number in the input, and the number that a line after all
-- lines of the input would have.
pub record Left : Type 0 where
  pub lines : List (ℕ × List ℕ)
  pub missing : ℕ

-- the lines that are not skipped, numbered from the one after `line` on
unfoldable pub content : ℕ → List (List ℕ) → List (ℕ × List ℕ)
content line [] = []
content line (l ∷ ls) = if is_skipped l then content (line + 1) ls else (line + 1, l) ∷ content (line + 1) ls

unfoldable pub left_of : Place → Left
left_of s = record { lines = content s.line (lines_of s.rest); missing = s.line + length (lines_of s.rest) + 1 }

-- the same of lines that are left, whatever text they came from
abbrev pub left_in : LinesLeft → Left
left_in lines = left_of (record { text = lines.rest; rest = lines.rest; line = lines.line })

-- the number of the line that offends first, and its first cause
abbrev pub Refusal : Type 0
Refusal = ℕ × Cause

infixl 10 ◌>>=◌
abbrev pub ◌>>=◌ : {A B E : Type 0} → Result A E → (A → Result B E) → Result B E
(Ok x) >>= f = f x
(Err e) >>= f = Err e

-- the next line that is left, which has to be there
abbrev pub first_line : List (ℕ × List ℕ) → ℕ → Result ((ℕ × List ℕ) × Left) Refusal
first_line [] missing = Err (missing, Missing)
first_line (x ∷ rest) missing = Ok (x, record { lines = rest; missing = missing })

unfoldable pub line_at : Left → Result ((ℕ × List ℕ) × Left) Refusal
line_at left = first_line left.lines left.missing

-- what was found in a line, or its cause with the number of the line
abbrev pub at_line : {A : Type 0} → ℕ → Result A Cause → Result A Refusal
at_line line (Ok x) = Ok x
at_line line (Err cause) = Err (line, cause)

-- the next line, read as `read` says
unfoldable pub item_at : {A : Type 0} → (List ℕ → Result A Cause) → Left → Result (A × Left) Refusal
item_at read left = do
  next ← line_at left
  item ← at_line (next.0.0) (read (next.0.1))
  Ok (item, next.1)

-- the words after the first, where that is the one expected and there are so many
abbrev pub words_after : List ℕ → ℕ → List (List ℕ) → Result (List (List ℕ)) Cause
words_after key count [] = Err Word
words_after key count (w ∷ ws) =
    if not (bytes_eq w key) then Err Word else (if not (nat_eq (length ws) count) then Err Count else Ok ws)

unfoldable pub fields_of : List ℕ → ℕ → List ℕ → Result (List (List ℕ)) Cause
fields_of key count line = if not (is_printable line) then Err NotAscii else words_after key count (words_of line)

-- a word as a number
abbrev pub numbered : List (List ℕ) → Result ℕ DecimalFault → Result (ℕ × List (List ℕ)) Cause
numbered ws (Ok value) = Ok (value, ws)
numbered ws (Err fault) = Err (Number fault)

-- the next word as a number of so many places, and the words after it
unfoldable pub number_of : ℕ → List (List ℕ) → Result (ℕ × List (List ℕ)) Cause
number_of places [] = Err Count
number_of places (w ∷ ws) = numbered ws (reading_of w places)

-- a line is refused where it has a fault
abbrev pub refuse : Option InstanceFault → Result Unit Cause
refuse None = Ok tt
refuse (Some fault) = Err (Fault fault)

-- what a function answered is what reading the lines gives, unless memory ran out
abbrev pub Refuses : {Y : Type 0} → ReadStop → Result Y Refusal → Type 0
Refuses NoMemory read = Unit {0}
Refuses (Refused line cause) read = read ≡ Err (line, cause)

-- `result` with the lines left after it
abbrev pub Gives : {X Y : Type 0} → (X → Y) → Result X ReadStop → Left → Result (Y × Left) Refusal → Type 0
Gives view (Ok x) left read = read ≡ Ok (view x, left)
Gives view (Err stop) left read = Refuses stop read

-- what was found in the words of a line
abbrev pub Finds : {X Y : Type 0} → (X → Y) → Result X Cause → Result Y Cause → Type 0
Finds view (Ok x) read = read ≡ Ok (view x)
Finds view (Err cause) read = read ≡ Err cause

-- a cause gets the number of its line
abbrev pub AtLine : {A : Type 0} → ℕ → Result A Cause → Result A ReadStop → Type 0
AtLine line (Ok x) result = result ≡ Ok x
AtLine line (Err cause) result = result ≡ Err (Refused line cause)
