-- What an input spells at its front: an instance, and the bytes after it.
use Rattle.std.specs.Prelude.{◌≡◌, ◌==◌, ℕ, zero, suc, ◌≤◌, List, [], ◌∷◌, length, if◌then◌else◌, Result, Ok}
use Rattle.cts_instance.specs.declared.parts.Parts.{Parts}
use Rattle.cts_read.specs.Grammar.{◌>>=◌, Refusal}
use Rattle.cts_read.specs.Whole.{instance_of}

-- the most bytes of an input that are accepted
abbrev pub input_limit : ℕ
input_limit = 67108864

-- the bytes after so many lines of a text, which LF ends
unfoldable pub after_line : List ℕ → List ℕ
after_line [] = []
after_line (b ∷ bs) = if b == 10 then bs else after_line bs

unfoldable pub after_lines : ℕ → List ℕ → List ℕ
after_lines zero text = text
after_lines (suc count) text = after_lines count (after_line text)

-- the instance at the front of a text and the bytes after its last line, or the first line that offends and its first cause
unfoldable pub front_of : List ℕ → Result (Parts × List ℕ) Refusal
front_of bytes = do
  taken ← instance_of bytes
  Ok (taken.0.0, after_lines taken.0.1 bytes)

-- The input is not too long, and spells this instance, with these bytes after its last line.
pub record SpellsFront (bytes : List ℕ) (i : Parts) (rest : List ℕ) : Type 0 where
  pub within : length bytes ≤ input_limit
  pub read : front_of bytes ≡ Ok (i, rest)
