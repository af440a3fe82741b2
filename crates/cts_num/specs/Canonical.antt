-- Canonical decimal texts, read back.
use Rattle.std.specs.Prelude.{◌≡◌, ℕ, ◌^◌, ◌<◌, ◌↔◌, List, if◌then◌else◌, nat_lt, Option, Some, None}
use Rattle.std.specs.Str.{bytes_eq}
use Rattle.cts_num.specs.Decimal.{decimal_text}
use Rattle.cts_num.specs.Number.{digit_number}

-- The number of at most 38 digits whose canonical text this is, if there is one: no other number than that of all its
-- digits can be.
unfoldable pub canonical_of : ℕ → List ℕ → Option ℕ
canonical_of places text =
    let number = digit_number text in
    if bytes_eq (decimal_text places number) text
    then (if nat_lt number (10 ^ 38) then Some number else None)
    else None

-- a text is read as a number exactly where it is the canonical text of that number, which has at most 38 digits
abbrev pub CanonicalIsWritten : Type 0
CanonicalIsWritten =
    (places number : ℕ) (text : List ℕ)
    → (canonical_of places text ≡ Some number) ↔ ((text ≡ decimal_text places number) × (number < 10 ^ 38))
