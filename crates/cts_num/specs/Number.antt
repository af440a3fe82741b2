-- The number that a text's digits write.
use Rattle.std.specs.Prelude.{ℕ, List, filter}
use Rattle.std.specs.Char.{is_ascii_digit}
use Rattle.std.specs.Str.Parse.{digits_value}

-- all digits as one number, the point left out
unfoldable pub digit_number : List ℕ → ℕ
digit_number text = digits_value 10 (filter is_ascii_digit text)
