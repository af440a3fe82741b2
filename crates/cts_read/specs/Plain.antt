-- Words one space apart.
use Rattle.std.specs.Prelude.{◌≡◌, ◌⊎◌, ℕ, List, [], ◌∷◌, Ok}
use Rattle.cts_num.specs.Reading.{reading_of}
use Rattle.cts_instance.specs.declared.version.Version.{Version}
use Rattle.cts_instance.specs.declared.version.Version.TheVariants.{One, Two}
use Rattle.cts_read.specs.Lines.{is_printable, words_of}

-- a word ends here: with the line, or with a space
abbrev pub IsPlainEnd : List ℕ → List ℕ → Type 0
IsPlainEnd bytes rest = ((bytes ≡ []) × (rest ≡ [])) ⊎ (bytes ≡ 32 ∷ rest)

-- the first word is this number, and the other words are those of the rest
pub record IsPlainNumber (places : ℕ) (bytes : List ℕ) (value : ℕ) (rest : List ℕ) : Type 0 where
  pub word : List ℕ
  pub words : words_of bytes ≡ word ∷ words_of rest
  pub reading : reading_of word places ≡ Ok value
  pub printable : is_printable bytes ≡ is_printable rest

-- the offset of a sink: in version 1 no word spells it and it is 0, in version 2 it is the first word
abbrev pub IsPlainOffset : Version → List ℕ → ℕ → List ℕ → Type 0
IsPlainOffset One bytes offset rest = (offset ≡ 0) × (rest ≡ bytes)
IsPlainOffset Two bytes offset rest = IsPlainNumber 15 bytes offset rest
