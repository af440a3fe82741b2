-- The lines that count, and their words.
use Rattle.std.specs.Prelude.{ℕ, Bool, true, false, ◌&&◌, ◌||◌, nat_le, ◌==◌, if◌then◌else◌, List, [], ◌∷◌, filter}
use Rattle.std.specs.List.{slice_split, list_all}

-- a space or a tab
abbrev pub is_blank : ℕ → Bool
is_blank byte = byte == 32 || byte == 9

-- a line that is skipped: nothing but blanks, or a `#` as its first byte that is none
unfoldable pub is_skipped : List ℕ → Bool
is_skipped [] = true
is_skipped (b ∷ bs) = if is_blank b then is_skipped bs else b == 35

-- a byte from 0x20 to 0x7E, or a tab
abbrev pub is_printable_byte : ℕ → Bool
is_printable_byte byte = byte == 9 || (nat_le 32 byte && nat_le byte 126)

-- a line of such bytes alone
abbrev pub is_printable : List ℕ → Bool
is_printable line = list_all is_printable_byte line

abbrev pub is_some_word : List ℕ → Bool
is_some_word [] = false
is_some_word (b ∷ bs) = true

-- the words of a line: what stands between blanks, as far as it is not empty
unfoldable pub words_of : List ℕ → List (List ℕ)
words_of line = filter is_some_word (slice_split is_blank line)
