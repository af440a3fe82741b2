-- The canonical decimal text of a number, an own format of this project: the whole part has no
-- leading zero, except that zero is `0`; at some places above 0, a point and exactly that many
-- digits follow; at 0 places there is no point.
use Rattle.std.specs.Prelude.{ℕ, ◌+◌, ◌-◌, ◌/◌, ◌%◌, ◌^◌, List, [], ◌∷◌, ◌++◌, length, map, replicate, codes, if◌then◌else◌, ◌==◌}
use Rattle.std.specs.Int.Digits.{digits_of}

-- the byte that writes a digit
abbrev pub glyph : ℕ → ℕ
glyph digit = 48 + digit

-- a number's digits, the highest first, and none for 0
unfoldable pub digits_text : ℕ → List ℕ
digits_text number = map glyph (digits_of 10 number)

-- a whole number without leading zeros
unfoldable pub whole_text : ℕ → List ℕ
whole_text number = if number == 0 then codes "0" else digits_text number

-- a number in exactly `width` digits, with zeros in front
unfoldable pub padded_text : ℕ → ℕ → List ℕ
padded_text width number = replicate (width - length (digits_text number)) (glyph 0) ++ digits_text number

-- two digits
abbrev pub pair_text : ℕ → List ℕ
pair_text number = glyph (number / 10) ∷ glyph (number % 10) ∷ []

-- the point and the fraction at places above 0, and nothing at 0 places
unfoldable pub fraction_text : ℕ → ℕ → List ℕ
fraction_text places value = if places == 0 then [] else codes "." ++ padded_text places (value % 10 ^ places)

-- `value` in units of 10^-places
unfoldable pub decimal_text : ℕ → ℕ → List ℕ
decimal_text places value = whole_text (value / 10 ^ places) ++ fraction_text places value
