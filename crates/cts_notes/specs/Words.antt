-- The words that a program is called with.
use Rattle.std.specs.Prelude.{◌≡◌, ℕ, ◌<◌, List, length, drop, map, slice_get, Option, IfSome, IsSomeAnd, String, string_bytes}
use Rattle.std.specs.Global.{Global}
use Rattle.std.specs.Str.Lossy.{utf8_lossy}

-- where the arguments are told, this is the one of this number, or there is none
abbrev pub IsArgument : Option (List (List ℕ)) → ℕ → Option (List ℕ) → Type 0
IsArgument told number argument = IfSome told (λ all. slice_get all number ≡ argument)

-- where the arguments are told, there is one of this number, and it is longer than so many bytes
abbrev pub IsLonger : Option (List (List ℕ)) → ℕ → ℕ → Type 0
IsLonger told number room = IfSome told (λ all. IsSomeAnd (slice_get all number) (λ argument. room < length argument))

-- the words among some arguments: all but the first, which is the program's own name, each whole and in their order, with
-- U+FFFD for what is no UTF-8 in it
abbrev pub words_in : List (List ℕ) → List (List ℕ)
words_in all = map utf8_lossy (drop 1 all)

-- these are the words among some arguments
abbrev pub AreWords : List (String Global) → List (List ℕ) → Type 0
AreWords words all = map string_bytes words ≡ words_in all
