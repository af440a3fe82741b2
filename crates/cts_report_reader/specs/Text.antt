-- Texts that are functions of what is printed, as lines with their line feeds: which of them some bytes are, and where
-- bytes that are none go wrong.
use Rattle.std.specs.Prelude.{◌≡◌, ℕ, ◌+◌, ◌≤◌, List, ◌++◌, take, length}
use Rattle.std.specs.List.{concat}

-- The bytes are the text of this value, which is one that can be printed.
pub record Spells {A : Type 0} (Fits : A → Type 0) (lines : A → List (List ℕ)) (bytes : List ℕ) (value : A) : Type 0 where
  pub fits : Fits value
  pub text : bytes ≡ concat (lines value)

-- So many lines of some text are a front of the bytes.
pub record Begins {A : Type 0} (Fits : A → Type 0) (lines : A → List (List ℕ)) (bytes : List ℕ) (count : ℕ) : Type 0 where
  pub value : A
  pub fits : Fits value
  pub inside : count ≤ length (lines value)
  pub more : List ℕ
  pub front : bytes ≡ concat (take count (lines value)) ++ more

-- The bytes are no text, and this is the first line with which no text begins: those before it begin one. Lines are
-- counted from 1.
pub record IsNotText {A : Type 0} (Fits : A → Type 0) (lines : A → List (List ℕ)) (bytes : List ℕ) (line : ℕ) : Type 0 where
  pub none : (value : A) → ¬ Spells Fits lines bytes value
  pub before : ℕ
  pub next : line ≡ before + 1
  pub begun : Begins Fits lines bytes before
  pub ended : ¬ Begins Fits lines bytes line
