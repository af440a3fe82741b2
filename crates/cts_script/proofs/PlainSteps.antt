-- Lines of steps whose words stand one space apart, against the grammar of a script.
use Rattle.std.proofs.Common.{◌≡◌, ℕ, ◌<◌, ◌≤◌, ◌&&◌, pos, Bool, true, false, nat_eq, List, [], ◌∷◌, ◌++◌, length, get_or, Option, Some, None, IfSome, Ok, inl, inr, refl, sym, ap, subst, arith, ◌∙◌, codes}
use Rattle.std.specs.Str.{bytes_eq}
use Rattle.std.specs.Char.{IsAsciiDigit, is_ascii_digit}
use Rattle.std.proofs.lemmas.Bool.{ne_eqb}
use Rattle.std.proofs.lemmas.Bool.Decides.{eqb_tells}
use Rattle.std.proofs.lemmas.List.Sums.{AllPass-from_list_all}
use Rattle.cts_num.proofs.Fronts.{digit_passes, passes_digit}
use Rattle.cts_num.proofs.CanonicalTexts.{texts_agree}
use Rattle.cts_edit.specs.declared.edit.Edit.TheVariants as edit
use Rattle.cts_read.specs.Lines.{is_blank, is_printable, words_of}
use Rattle.cts_read.specs.Grammar.{number_of}
use Rattle.cts_read.specs.Plain.{IsPlainNumber}
use Rattle.cts_read.proofs.Plains.{plain_number_of, printable_empty}
use Rattle.cts_read.proofs.WordLists.{words_of_blank, words_of_empty, words_of_next}
use Rattle.cts_script.specs.declared.script.Act.{Act}
use Rattle.cts_script.specs.declared.script.Act.TheVariants.{Change, Draw}
use Rattle.cts_script.specs.declared.step.ScriptLine.{ScriptLine}
use Rattle.cts_script.specs.declared.step.StepKind.{StepKind}
use Rattle.cts_script.specs.declared.step.StepKind.TheVariants as kind
use Rattle.cts_script.specs.Steps.{act_of, add_of, cap_of, is_cap, is_coordinate, is_digits, is_id, kind_at, kind_of, limited, line_of, move_of, numbers_after, remove_of, said_by, step_of, where_within}
use Rattle.cts_script.specs.Plain.{BeginsWithDigits, IsPlainAct, IsPlainCaller, IsPlainKind}
use Rattle.cts_script.proofs.WrittenWords.{IsWord, literal, words_not_blank}
use Rattle.cts_script.proofs.WrittenLines.{found}

no_letters : (word : List ℕ) → word ≡ codes "end" → is_digits word ≡ true → ⊥
no_letters word same digits = let letters : is_digits word ≡ false = ap is_digits same in cc

digits_not_end : (word : List ℕ) → is_digits word ≡ true → bytes_eq word (codes "end") ≡ false
digits_not_end word digits = by_test (bytes_eq word (codes "end")) refl
  where
    by_test : (test : Bool) → bytes_eq word (codes "end") ≡ test → test ≡ false
    by_test true e = absurd (no_letters word (texts_agree _ _ e) digits)
    by_test false e = refl

-- a word of digits that a space ends
digit_not_blank : (b : ℕ) → is_ascii_digit b ≡ true → is_blank b ≡ false
digit_not_blank b digit =
    let at = passes_digit b digit in
    let space = ne_eqb b 32 (λ e. omega (arith, at.0, e)) in
    let tab = ne_eqb b 9 (λ e. omega (arith, at.0, e)) in
    rw (space, tab) refl

digits_first : (word rest : List ℕ) → 0 < length word → is_digits word ≡ true → BeginsWithDigits (words_of (word ++ 32 ∷ rest))
digits_first word rest some digits =
    subst BeginsWithDigits
    (sym (words_of_next word 32 rest some (λ k d lt. digit_not_blank (get_or word k d) (AllPass-from_list_all is_ascii_digit word digits k d lt)) refl)) digits

pub one_digit : (line : List ℕ) → 2 ≤ length line → IsAsciiDigit (get_or line 0 0) → get_or line 1 0 ≡ 32 → BeginsWithDigits (words_of line)
one_digit [] long first space = absurd (omega (arith, long))
one_digit (a ∷ []) long first space = absurd (omega (arith, long))
one_digit (a ∷ b ∷ bs) long first space =
    subst (λ x. BeginsWithDigits (words_of (a ∷ x ∷ bs))) (sym space)
    (digits_first (a ∷ []) bs (omega arith) (rw (digit_passes a first) refl))

pub two_digits : (line : List ℕ) → 3 ≤ length line → IsAsciiDigit (get_or line 0 0) → IsAsciiDigit (get_or line 1 0) → get_or line 2 0 ≡ 32
    → BeginsWithDigits (words_of line)
two_digits [] long first second space = absurd (omega (arith, long))
two_digits (a ∷ []) long first second space = absurd (omega (arith, long))
two_digits (a ∷ b ∷ []) long first second space = absurd (omega (arith, long))
two_digits (a ∷ b ∷ x ∷ xs) long first second space =
    subst (λ y. BeginsWithDigits (words_of (a ∷ b ∷ y ∷ xs))) (sym space)
    (digits_first (a ∷ b ∷ []) xs (omega arith) (rw (digit_passes a first, digit_passes b second) refl))

-- such a number of a caller
pub plain_caller : (line : List ℕ) (caller : ℕ) (rest : List ℕ) → BeginsWithDigits (words_of line) → IsPlainNumber 0 line caller rest → IsPlainCaller line caller rest
plain_caller line caller rest digits number = record { number = number; digits = subst BeginsWithDigits number.words digits }

-- a word that names a kind, and a space
kind_before : (key : List ℕ) (kind : StepKind) (bytes rest : List ℕ) → IsWord key → kind_of key ≡ Some kind → is_printable (key ++ 32 ∷ rest) ≡ is_printable rest
    → bytes ≡ key ++ 32 ∷ rest → IsPlainKind bytes kind rest
kind_before key kind bytes rest word named printable e =
    record {
      word = key;
      words = ap words_of e ∙ words_of_next key 32 rest word.some (words_not_blank key word) refl ∙ ap (λ ws. key ∷ ws) (words_of_blank 32 rest refl);
      named = named;
      printable = ap is_printable e ∙ printable;
    }

pub add_before : (bytes rest : List ℕ) → bytes ≡ codes "add " ++ rest → IsPlainKind bytes kind.Add rest
unfolding kind_of
add_before bytes rest e = kind_before (codes "add") kind.Add bytes rest (literal (codes "add") (omega arith) refl) refl refl e

pub remove_before : (bytes rest : List ℕ) → bytes ≡ codes "remove " ++ rest → IsPlainKind bytes kind.Remove rest
unfolding kind_of
remove_before bytes rest e = kind_before (codes "remove") kind.Remove bytes rest (literal (codes "remove") (omega arith) refl) refl refl e

pub move_before : (bytes rest : List ℕ) → bytes ≡ codes "move " ++ rest → IsPlainKind bytes kind.Move rest
unfolding kind_of
move_before bytes rest e = kind_before (codes "move") kind.Move bytes rest (literal (codes "move") (omega arith) refl) refl refl e

pub cap_before : (bytes rest : List ℕ) → bytes ≡ codes "cap " ++ rest → IsPlainKind bytes kind.Cap rest
unfolding kind_of
cap_before bytes rest e = kind_before (codes "cap") kind.Cap bytes rest (literal (codes "cap") (omega arith) refl) refl refl e

-- the word of a tree, which ends its line
pub tree_alone : (bytes rest : List ℕ) → bytes ≡ codes "tree" ++ rest → length rest ≡ 0 → IsPlainKind bytes kind.Tree rest
unfolding kind_of words_of
tree_alone bytes [] e none = record { word = codes "tree"; words = ap words_of e; named = refl; printable = ap is_printable e }
tree_alone bytes (b ∷ bs) e none = absurd (omega (arith, none))

same_count : (kind : StepKind) → nat_eq (numbers_after kind) (numbers_after kind) ≡ true
same_count kind.Add = refl
same_count kind.Remove = refl
same_count kind.Move = refl
same_count kind.Cap = refl
same_count kind.Tree = refl

-- a line of a caller's number, a kind and its numbers
pub plain_line : (callers before : ℕ) (line : List ℕ) (caller : ℕ) (rest : List ℕ) (kind : StepKind) (numbers : List ℕ) (act : Act) (said : ScriptLine)
    → IsPlainCaller line caller rest → IsPlainKind rest kind numbers → IsPlainAct kind numbers act → limited callers before caller (Some act) ≡ Ok said
    → line_of callers before line ≡ Ok said
unfolding line_of said_by step_of kind_at
plain_line callers before line caller rest kind numbers act said a b c within =
    let words : words_of line ≡ a.number.word ∷ b.word ∷ words_of numbers = a.number.words ∙ ap (λ ws. a.number.word ∷ ws) b.words in
    let printable : is_printable line ≡ true = a.number.printable ∙ b.printable ∙ c.printable in
    rw (printable, words, digits_not_end a.number.word a.digits, a.digits, b.named, c.count, same_count kind)
    (found _ _ _ _ (subst (λ ws. number_of 0 ws ≡ Ok (caller, words_of rest)) words (plain_number_of 0 line caller rest a.number)) (found _ _ _ _ c.asked within))

-- nothing is left
pub no_byte : (bytes : List ℕ) (empty : Bool) → empty ≡ nat_eq (length bytes) 0 → empty ≡ true → length bytes ≡ 0
no_byte bytes empty e holds =
    let none : nat_eq (length bytes) 0 ≡ true = sym e ∙ holds in
    elim (eqb_tells (length bytes) 0) [ inl p ↦ p.1 | inr p ↦ cc ]

-- the numbers of a sink that is added
pub plain_add : (bytes rest₁ rest₂ rest₃ rest₄ : List ℕ) (id x y cap : ℕ) (asked : Option Act)
    → IsPlainNumber 0 bytes id rest₁ → IsPlainNumber 3 rest₁ x rest₂ → IsPlainNumber 3 rest₂ y rest₃ → IsPlainNumber 6 rest₃ cap rest₄ → length rest₄ ≡ 0
    → asked ≡ where_within (is_id id && is_coordinate x && is_coordinate y && is_cap cap) (Change (edit.Add id (pos x) (pos y) cap))
    → IfSome asked (IsPlainAct kind.Add bytes)
unfolding act_of add_of
plain_add bytes rest₁ rest₂ rest₃ rest₄ id x y cap None a b c d none within = tt
plain_add bytes rest₁ rest₂ rest₃ rest₄ id x y cap (Some act) a b c d none within =
    record {
      count = rw (a.words, b.words, c.words, d.words, words_of_empty rest₄ none) refl;
      asked = found _ _ _ _ (plain_number_of 0 bytes id rest₁ a) (found _ _ _ _ (plain_number_of 3 rest₁ x rest₂ b)
          (found _ _ _ _ (plain_number_of 3 rest₂ y rest₃ c) (found _ _ _ _ (plain_number_of 6 rest₃ cap rest₄ d) (ap Ok (sym within)))));
      printable = a.printable ∙ b.printable ∙ c.printable ∙ d.printable ∙ printable_empty rest₄ none;
    }

-- the number of a sink that is removed
pub plain_remove : (bytes rest : List ℕ) (id : ℕ) (asked : Option Act) → IsPlainNumber 0 bytes id rest → length rest ≡ 0
    → asked ≡ where_within (is_id id) (Change (edit.Remove id)) → IfSome asked (IsPlainAct kind.Remove bytes)
unfolding act_of remove_of
plain_remove bytes rest id None a none within = tt
plain_remove bytes rest id (Some act) a none within =
    record {
      count = rw (a.words, words_of_empty rest none) refl;
      asked = found _ _ _ _ (plain_number_of 0 bytes id rest a) (ap Ok (sym within));
      printable = a.printable ∙ printable_empty rest none;
    }

-- the numbers of a sink that is moved
pub plain_move : (bytes rest₁ rest₂ rest₃ : List ℕ) (id x y : ℕ) (asked : Option Act)
    → IsPlainNumber 0 bytes id rest₁ → IsPlainNumber 3 rest₁ x rest₂ → IsPlainNumber 3 rest₂ y rest₃ → length rest₃ ≡ 0
    → asked ≡ where_within (is_id id && is_coordinate x && is_coordinate y) (Change (edit.Move id (pos x) (pos y))) → IfSome asked (IsPlainAct kind.Move bytes)
unfolding act_of move_of
plain_move bytes rest₁ rest₂ rest₃ id x y None a b c none within = tt
plain_move bytes rest₁ rest₂ rest₃ id x y (Some act) a b c none within =
    record {
      count = rw (a.words, b.words, c.words, words_of_empty rest₃ none) refl;
      asked = found _ _ _ _ (plain_number_of 0 bytes id rest₁ a) (found _ _ _ _ (plain_number_of 3 rest₁ x rest₂ b)
          (found _ _ _ _ (plain_number_of 3 rest₂ y rest₃ c) (ap Ok (sym within))));
      printable = a.printable ∙ b.printable ∙ c.printable ∙ printable_empty rest₃ none;
    }

-- the numbers of a sink whose capacitance is set
pub plain_cap : (bytes rest₁ rest₂ : List ℕ) (id cap : ℕ) (asked : Option Act)
    → IsPlainNumber 0 bytes id rest₁ → IsPlainNumber 6 rest₁ cap rest₂ → length rest₂ ≡ 0
    → asked ≡ where_within (is_id id && is_cap cap) (Change (edit.SetCap id cap)) → IfSome asked (IsPlainAct kind.Cap bytes)
unfolding act_of cap_of
plain_cap bytes rest₁ rest₂ id cap None a b none within = tt
plain_cap bytes rest₁ rest₂ id cap (Some act) a b none within =
    record {
      count = rw (a.words, b.words, words_of_empty rest₂ none) refl;
      asked = found _ _ _ _ (plain_number_of 0 bytes id rest₁ a) (found _ _ _ _ (plain_number_of 6 rest₁ cap rest₂ b) (ap Ok (sym within)));
      printable = a.printable ∙ b.printable ∙ printable_empty rest₂ none;
    }

-- a tree has no number
pub plain_tree : (bytes : List ℕ) → length bytes ≡ 0 → IsPlainAct kind.Tree bytes Draw
unfolding act_of
plain_tree bytes none =
    record { count = rw (words_of_empty bytes none) refl; asked = refl; printable = printable_empty bytes none }
