-- The line of a step whose words stand one space apart, part by part.
use Rattle.std.specs.Prelude.{◌≡◌, ℕ, true, List, [], ◌∷◌, length, Some, Ok}
use Rattle.cts_read.specs.Lines.{is_printable, words_of}
use Rattle.cts_read.specs.Plain.{IsPlainNumber}
use Rattle.cts_script.specs.declared.script.Act.{Act}
use Rattle.cts_script.specs.declared.step.StepKind.{StepKind}
use Rattle.cts_script.specs.Steps.{act_of, is_digits, kind_of, numbers_after}

-- the first word has digits alone
abbrev pub BeginsWithDigits : List (List ℕ) → Type 0
BeginsWithDigits [] = ⊥
BeginsWithDigits (word ∷ words) = is_digits word ≡ true

-- the first word is this number of a caller, and the other words are those of the rest
pub record IsPlainCaller (bytes : List ℕ) (caller : ℕ) (rest : List ℕ) : Type 0 where
  pub number : IsPlainNumber 0 bytes caller rest
  pub digits : is_digits number.word ≡ true

-- the first word names this kind, and the other words are those of the rest
pub record IsPlainKind (bytes : List ℕ) (kind : StepKind) (rest : List ℕ) : Type 0 where
  pub word : List ℕ
  pub words : words_of bytes ≡ word ∷ words_of rest
  pub named : kind_of word ≡ Some kind
  pub printable : is_printable bytes ≡ is_printable rest

-- the words are the numbers of a step of this kind that asks for this
pub record IsPlainAct (kind : StepKind) (bytes : List ℕ) (act : Act) : Type 0 where
  pub count : length (words_of bytes) ≡ numbers_after kind
  pub asked : act_of kind (words_of bytes) ≡ Ok (Some act)
  pub printable : is_printable bytes ≡ true
