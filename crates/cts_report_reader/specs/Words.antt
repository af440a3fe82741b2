-- The words of a report's lines, read from the front of bytes.
use Rattle.std.specs.Prelude.{◌≡◌, ℕ, zero, suc, ◌+◌, ◌*◌, ◌/◌, ◌%◌, ◌^◌, Bool, true, false, ◌&&◌, if◌then◌else◌, nat_le, List, [], ◌∷◌, take, drop, codes, Option, Some, None, ◌==◌}
use Rattle.std.specs.Borrow.{Bor}
use Rattle.std.specs.List.{prefix_len}
use Rattle.cts_num.specs.Canonical.{canonical_of}
use Rattle.cts_units.specs.Limits.{max_length}
use Rattle.cts_report.specs.Printed.{PrintedPoint}
use Rattle.cts_report_reader.specs.Reader.{PartReader, is_number_byte}

infixl 10 ◌>>=◌
abbrev pub ◌>>=◌ : {A B : Type 0} → Option A → (A → Option B) → Option B
(Some x) >>= f = f x
None >>= f = None

-- what a function of the code found, and what it left, as these readers tell it
abbrev pub Finds : {T A : Type 0} → (T → A) → Option (T × Bor (List ℕ)) → Option (A × List ℕ) → Type 0
Finds view None None = Unit {0}
Finds view None (Some right) = ⊥
Finds view (Some found) None = ⊥
Finds view (Some found) (Some right) = (view found.0 ≡ right.0) × (found.1.now ≡ right.1)

abbrev pub same : {A : Type 0} → A → A
same x = x

-- a word that has to stand there
unfoldable pub word_at : List ℕ → PartReader Unit
word_at [] bytes = Some (tt, bytes)
word_at (letter ∷ word) [] = None
word_at (letter ∷ word) (byte ∷ bytes) = if letter == byte then word_at word bytes else None

-- a number with so many places: the longest run of digits and points
unfoldable pub number_at : ℕ → PartReader ℕ
number_at places bytes = do
  let size = prefix_len is_number_byte bytes
  number ← canonical_of places (take size bytes)
  Some (number, drop size bytes)

-- what was read, where it passes a test
abbrev pub kept_if : {A : Type 0} → (A → Bool) → Option (A × List ℕ) → Option (A × List ℕ)
kept_if test None = None
kept_if test (Some found) = if test found.0 then Some found else None

-- a label and a number
unfoldable pub labelled_at : List ℕ → ℕ → PartReader ℕ
labelled_at label places bytes = do
  word ← word_at label bytes
  number_at places word.1

-- a label and a number up to a bound
unfoldable pub bounded_at : List ℕ → ℕ → ℕ → PartReader ℕ
bounded_at label places bound bytes = kept_if (λ number. nat_le number bound) (labelled_at label places bytes)

-- one part and then another
abbrev pub both_at : {A B : Type 0} → PartReader A → PartReader B → PartReader (A × B)
both_at first second bytes = first bytes >>= λ a. second a.1 >>= λ b. Some ((a.0, b.0), b.1)

-- a part, put into another form
abbrev pub mapped_at : {A C : Type 0} → (A → C) → PartReader A → PartReader C
mapped_at to read bytes = read bytes >>= λ a. Some (to a.0, a.1)

abbrev pub is_coordinate : ℕ → Bool
is_coordinate number = nat_le number (5 * (2 * 10 ^ 8)) && (number % 5 == 0)

-- a coordinate after a space
unfoldable pub coordinate_at : PartReader ℕ
coordinate_at bytes = kept_if is_coordinate (labelled_at (codes " ") 4 bytes)

abbrev pub point_of_two : ℕ × ℕ → PrintedPoint
point_of_two found = record { x = found.0; y = found.1 }

unfoldable pub point_at : PartReader PrintedPoint
point_at = mapped_at point_of_two (both_at coordinate_at coordinate_at)

-- x and y are both whole, or both half
abbrev pub is_even_place : PrintedPoint → Bool
is_even_place p = (p.x / 5 + p.y / 5) % 2 == 0

unfoldable pub place_at : PartReader (Unit × PrintedPoint)
place_at = both_at (word_at (codes " at")) (λ bytes. kept_if is_even_place (point_at bytes))

-- so many points
unfoldable pub points_at : ℕ → PartReader (List PrintedPoint)
points_at zero bytes = Some ([], bytes)
points_at (suc count) bytes =
    mapped_at (λ (found : PrintedPoint × List PrintedPoint). found.0 ∷ found.1) (both_at point_at (points_at count)) bytes

-- the number of corners, and then the corners
unfoldable pub corners_at : PartReader (List PrintedPoint)
corners_at bytes = bounded_at (codes " via ") 0 65536 bytes >>= λ count. points_at count.0 count.1

-- the first of two answers, if there is one, else the second
abbrev pub first_of : {A : Type 0} → Option A → Option A → Option A
first_of (Some found) other = Some found
first_of None other = other

-- an arrival, where it is told
unfoldable pub arrival_at : Bool → PartReader (Option ℕ)
arrival_at false bytes = Some (None, bytes)
arrival_at true bytes = mapped_at Some (labelled_at (codes " arrival ") 16) bytes

-- what every line of a node ends with: delay, arrival where it is told, slew, wire and corners
unfoldable pub tail_at : Bool → PartReader (ℕ × (Option ℕ × (ℕ × (ℕ × (List PrintedPoint × Unit)))))
tail_at told =
    both_at (labelled_at (codes " delay ") 16)
    (both_at (arrival_at told)
    (both_at (labelled_at (codes " slew ") 16)
    (both_at (bounded_at (codes " wire ") 3 max_length) (both_at corners_at (word_at (codes "\n"))))))
