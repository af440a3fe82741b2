-- What was taken from a source that tells the bytes still to come.
use Rattle.std.specs.Prelude.{◌≡◌, ℕ, ◌≤◌, List, length, drop, ⊤, Option, None, Some}

-- exactly the first n of the bytes that were left before are taken, where the source tells them
abbrev pub TakesFirst : Option (List ℕ) → Option (List ℕ) → ℕ → Type 0
TakesFirst None new n = ⊤
TakesFirst (Some old) None n = ⊥
TakesFirst (Some old) (Some new) n = (n ≤ length old) × (new ≡ drop n old)
