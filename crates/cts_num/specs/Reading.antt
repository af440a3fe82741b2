-- What a text says as a decimal number, or the first fault in it. An own format of this project: a
-- decimal text has digits, at most one point and at least one digit; there is no sign and no
-- exponent. Its value counts units of 10^-places.
use Rattle.std.specs.Prelude.{◌≡◌, ◌≢◌, ◌⊎◌, ℕ, ◌+◌, ◌*◌, ◌/◌, ◌^◌, ◌<◌, ◌≤◌, min, ◌&&◌, Bool, true, false, List, [], ◌∷◌, drop, if◌then◌else◌, nat_lt, length, slice_index, codes, ◌==◌, Result, Ok, Err, EachIndex, SomeIndex}
use Rattle.std.specs.Char.{IsAsciiDigit, is_ascii_digit}
use Rattle.std.specs.List.{position_or_len, after_first, prefix_len}
use Rattle.cts_num.specs.Number.{digit_number}
use Rattle.cts_num.specs.declared.read.DecimalFault.{DecimalFault}
use Rattle.cts_num.specs.declared.read.DecimalFault.TheVariants.{Empty, BadByte, TooFine, TooGreat}

abbrev pub is_point : ℕ → Bool
is_point byte = byte == 46

-- where the first point stands, or the length of a text without one
abbrev pub point_place : List ℕ → ℕ
point_place text = position_or_len is_point text

-- how many bytes stand after the first point
abbrev pub fraction_length : List ℕ → ℕ
fraction_length text = length (after_first is_point text)

-- a digit or the first point
abbrev pub IsGoodByte : List ℕ → ℕ → Type 0
IsGoodByte text at = IsAsciiDigit (slice_index text at) ⊎ (at ≡ point_place text)

-- `text` writes `value` units of 10^-places: with the digit number n and k digits after the point,
-- the value is the whole v with v·10^k = n·10^places
pub record IsDecimal (text : List ℕ) (places value : ℕ) : Type 0 where
  pub good : EachIndex text (IsGoodByte text)
  pub some_digit : SomeIndex text (λ at. IsAsciiDigit (slice_index text at))
  pub value_is : value * 10 ^ fraction_length text ≡ digit_number text * 10 ^ places

-- no byte, or one point
abbrev pub IsEmptyDecimal : List ℕ → Type 0
IsEmptyDecimal text = (text ≡ []) ⊎ (text ≡ codes ".")

-- the first byte that is neither a digit nor the first point
pub record IsFirstBadByte (text : List ℕ) (at : ℕ) : Type 0 where
  pub inside : at < length text
  pub bad : ¬ IsGoodByte text at
  pub first : (k : ℕ) → k < at → IsGoodByte text k

-- the first digit past the places that is not 0, in a text without a bad byte
pub record IsFirstTooFine (text : List ℕ) (places at : ℕ) : Type 0 where
  pub good : EachIndex text (IsGoodByte text)
  pub inside : at < length text
  pub past : point_place text + places < at
  pub fine : slice_index text at ≢ 48
  pub first : (k : ℕ) → point_place text + places < k → k < at → slice_index text k ≡ 48

-- the one answer to a text: its value below 10^18, or its first fault
abbrev pub IsReading : List ℕ → ℕ → Result ℕ DecimalFault → Type 0
IsReading text places (Ok value) = IsDecimal text places value × (value < 10 ^ 18)
IsReading text places (Err Empty) = IsEmptyDecimal text
IsReading text places (Err (BadByte at)) = IsFirstBadByte text at
IsReading text places (Err (TooFine at)) = IsFirstTooFine text places at
IsReading text places (Err TooGreat) = (value : ℕ) × IsDecimal text places value × (10 ^ 18 ≤ value)

-- where the first byte stands that is neither a digit nor the first point; a place past the end where
-- there is none
unfoldable pub bad_place : List ℕ → ℕ
bad_place text =
    let front = prefix_len is_ascii_digit text in
    if front == point_place text then front + 1 + prefix_len is_ascii_digit (drop (front + 1) text) else front

-- where the first byte past the places stands that is not `0`; a place past the end where there is none
unfoldable pub fine_place : List ℕ → ℕ → ℕ
fine_place text places =
    let kept = point_place text + 1 + places in kept + prefix_len (λ byte. byte == 48) (drop kept text)

abbrev pub is_empty_decimal : List ℕ → Bool
is_empty_decimal [] = true
is_empty_decimal (byte ∷ []) = is_point byte
is_empty_decimal (byte ∷ next ∷ rest) = false

abbrev pub below_limit : ℕ → Result ℕ DecimalFault
below_limit value = if nat_lt value (10 ^ 18) then Ok value else Err TooGreat

-- the answer of `IsReading` as a function, for grammars that are functions of the text
unfoldable pub reading_of : List ℕ → ℕ → Result ℕ DecimalFault
reading_of text places =
    if is_empty_decimal text
    then Err Empty
    else (
    if nat_lt (bad_place text) (length text)
    then Err (BadByte (bad_place text))
    else (
    if nat_lt (fine_place text places) (length text)
    then Err (TooFine (fine_place text places))
    else below_limit (digit_number text * 10 ^ places / 10 ^ fraction_length text)
    )
    )

-- how many bytes the number in front of a text takes: its digits, and where a point follows them the point and the digits
-- after it, at most as many as there are places
unfoldable pub front_size : ℕ → List ℕ → ℕ
front_size places text =
    let whole = prefix_len is_ascii_digit text in
    if nat_lt 0 whole && is_point (slice_index text whole)
    then whole + 1 + min places (prefix_len is_ascii_digit (drop (whole + 1) text))
    else whole

-- a fault from `from` on: the first byte that is no digit, or where there is none the first digit
-- that is not 0
abbrev pub IsTailFault : List ℕ → ℕ → DecimalFault → Type 0
IsTailFault text from Empty = ⊥
IsTailFault text from (BadByte at) = (from ≤ at) × (at < length text) × ¬ IsAsciiDigit (slice_index text at)
    × ((k : ℕ) → from ≤ k → k < at → IsAsciiDigit (slice_index text k))
IsTailFault text from (TooFine at) = (from ≤ at) × (at < length text) × (slice_index text at ≢ 48)
    × ((k : ℕ) → from ≤ k → k < at → slice_index text k ≡ 48)
    × ((k : ℕ) → from ≤ k → k < length text → IsAsciiDigit (slice_index text k))
IsTailFault text from TooGreat = ⊥
