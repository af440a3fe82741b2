-- Lines of scripts that are written are read back.
use Rattle.std.proofs.Common.{◌≡◌, ℕ, ◌^◌, ◌<◌, ◌≤◌, nat_le, eqb, ℤ, pos, negsuc, unsigned_abs, Bool, true, false, List, [], ◌∷◌, ◌++◌, length, get_or, Some, None, Ok, refl, sym, ap, subst, arith, codes}
use Rattle.std.specs.Str.{bytes_eq}
use Rattle.std.specs.Char.{IsAsciiDigit, is_ascii_digit}
use Rattle.std.specs.List.{flat_map}
use Rattle.std.proofs.lemmas.Bool.{le-leb, lt-leb, ne_eqb}
use Rattle.std.proofs.lemmas.Int.{ints}
use Rattle.std.proofs.lemmas.List.{get_or_default}
use Rattle.std.proofs.lemmas.List.Sums.{list_all-from_AllPass}
use Rattle.cts_num.specs.Decimal.{decimal_text}
use Rattle.cts_num.proofs.CanonicalTexts.{texts_agree}
use Rattle.cts_num.proofs.Fronts.{digit_passes}
use Rattle.cts_num.proofs.Spelling.{Spells, spells_whole}
use Rattle.cts_num.proofs.Texts.{decimal_text-zero}
use Rattle.cts_instance.specs.Laws.{IsOnChip}
use Rattle.cts_edit.specs.declared.edit.Edit.TheVariants.{Add, Remove, Move, SetCap}
use Rattle.cts_edit.specs.Edits.{IsCap, IsId}
use Rattle.cts_read.specs.Lines.{is_skipped, words_of}
use Rattle.cts_read.specs.Grammar.{refuse}
use Rattle.cts_script.specs.declared.script.Act.{Act}
use Rattle.cts_script.specs.declared.script.Act.TheVariants.{Change, Draw}
use Rattle.cts_script.specs.declared.step.ScriptLine.TheVariants.{End, Step}
use Rattle.cts_script.specs.declared.step.StepKind.{StepKind}
use Rattle.cts_script.specs.declared.step.StepKind.TheVariants as kind
use Rattle.cts_script.specs.Steps.{IsAct, IsCallerCount, act_of, add_of, callers_fault, callers_of, cap_of, is_digits, kind_at, kind_of, limited, line_of, move_of, remove_of, said_by, step_of}
use Rattle.cts_script.specs.Text.{after_space, coordinate}
use Rattle.cts_script.specs.ScriptText.{act_words}
use Rattle.cts_script.proofs.WrittenWords.{AreWords, body_of, decimal_word, fields_back, line-body, literal, number_back, printable, words_of-body}
use Rattle.cts_script.proofs.WrittenLines.{found}

-- a whole number is written with digits alone
whole_digits : (n : ℕ) → Spells (decimal_text 0 n) n
whole_digits n = subst (λ text. Spells text n) (sym (decimal_text-zero n)) (spells_whole n)

digits_alone : (n : ℕ) → is_digits (decimal_text 0 n) ≡ true
digits_alone n =
    let text = decimal_text 0 n in
    list_all-from_AllPass is_ascii_digit text
    (λ i d inside. subst (λ b. is_ascii_digit b ≡ true) (get_or_default text i 0 d inside) (digit_passes _ ((whole_digits n).each i inside)))

first_digit : (n : ℕ) → IsAsciiDigit (get_or (decimal_text 0 n) 0 0)
first_digit n = (whole_digits n).each 0 ((decimal_word 0 n).some)

no_digit : (word : List ℕ) → word ≡ codes "end" → IsAsciiDigit (get_or word 0 0) → ⊥
no_digit word same digit =
    let e : get_or word 0 0 ≡ 101 = ap (λ w. get_or w 0 0) same in
    omega (arith, e, digit.1)

not_end : (n : ℕ) → bytes_eq (decimal_text 0 n) (codes "end") ≡ false
not_end n = by_test (bytes_eq (decimal_text 0 n) (codes "end")) refl
  where
    by_test : (test : Bool) → bytes_eq (decimal_text 0 n) (codes "end") ≡ test → test ≡ false
    by_test true e = absurd (no_digit (decimal_text 0 n) (texts_agree _ _ e) (first_digit n))
    by_test false e = refl

-- a line that begins with a digit is not skipped
shown_by : (text rest : List ℕ) → 0 < length text → IsAsciiDigit (get_or text 0 0) → is_skipped (text ++ rest) ≡ false
unfolding is_skipped
shown_by [] rest some digit = absurd (omega (arith, some))
shown_by (b ∷ bs) rest some digit =
    let low : 48 ≤ b = digit.0 in
    let space : eqb b 32 ≡ false = ne_eqb b 32 (λ e. omega (arith, low, e)) in
    let tab : eqb b 9 ≡ false = ne_eqb b 9 (λ e. omega (arith, low, e)) in
    let mark : eqb b 35 ≡ false = ne_eqb b 35 (λ e. omega (arith, low, e)) in
    rw (space, tab, mark) refl

pub shown : (n : ℕ) (words : List (List ℕ)) → is_skipped (body_of (decimal_text 0 n) words) ≡ false
shown n words = shown_by (decimal_text 0 n) (flat_map after_space words) ((decimal_word 0 n).some) (first_digit n)

-- a coordinate on the chip, as it is written
record IsRead (z : ℤ) : Type 0 where
  same : pos (unsigned_abs z) ≡ z
  near : nat_le (unsigned_abs z) (10 ^ 8) ≡ true
  less : unsigned_abs z < 10 ^ 18

is_read : (z : ℤ) → IsOnChip z → IsRead z
is_read (pos n) h =
    let near : n ≤ 10 ^ 8 = omega (arith, ints, h.high) in
    record { same = refl; near = le-leb n (10 ^ 8) near; less = omega (arith, near) }
is_read (negsuc n) h = absurd (omega (arith, ints, h.low))

id_less : (n : ℕ) → IsId n → n < 10 ^ 18
id_less n h = omega (arith, h)

id_test : (n : ℕ) → IsId n → nat_le n 999999999 ≡ true
id_test n h = le-leb n 999999999 h

cap_less : (n : ℕ) → IsCap n → n < 10 ^ 18
cap_less n h = omega (arith, h)

cap_test : (n : ℕ) → IsCap n → nat_le n (10 ^ 12) ≡ true
cap_test n h = le-leb n (10 ^ 12) h

-- the kind of an act, and the words of its numbers
abbrev kind_in : Act → StepKind
kind_in (Change (Add id x y c)) = kind.Add
kind_in (Change (Remove id)) = kind.Remove
kind_in (Change (Move id x y)) = kind.Move
kind_in (Change (SetCap id c)) = kind.Cap
kind_in Draw = kind.Tree

abbrev number_words : Act → List (List ℕ)
number_words (Change (Add id x y c)) = decimal_text 0 id ∷ coordinate x ∷ coordinate y ∷ decimal_text 6 c ∷ []
number_words (Change (Remove id)) = decimal_text 0 id ∷ []
number_words (Change (Move id x y)) = decimal_text 0 id ∷ coordinate x ∷ coordinate y ∷ []
number_words (Change (SetCap id c)) = decimal_text 0 id ∷ decimal_text 6 c ∷ []
number_words Draw = []

kind_back : (act : Act) → kind_at (act_words act) ≡ Ok (kind_in act, number_words act)
unfolding kind_at kind_of
kind_back (Change (Add id x y c)) = refl
kind_back (Change (Remove id)) = refl
kind_back (Change (Move id x y)) = refl
kind_back (Change (SetCap id c)) = refl
kind_back Draw = refl

act_back : (act : Act) → IsAct act → act_of (kind_in act) (number_words act) ≡ Ok (Some act)
unfolding act_of add_of remove_of move_of cap_of
act_back (Change (Add id x y c)) h =
    let hx = is_read x h.1.0 in
    let hy = is_read y h.1.1 in
    found _ _ _ _ (number_back 0 id _ (id_less id h.0))
    (found _ _ _ _ (number_back 3 (unsigned_abs x) _ hx.less)
    (found _ _ _ _ (number_back 3 (unsigned_abs y) _ hy.less)
    (found _ _ _ _ (number_back 6 c _ (cap_less c h.2))
    (rw (id_test id h.0, hx.near, hy.near, cap_test c h.2, hx.same, hy.same) refl))))
act_back (Change (Remove id)) h =
    found _ _ _ _ (number_back 0 id _ (id_less id h)) (rw (id_test id h) refl)
act_back (Change (Move id x y)) h =
    let hx = is_read x h.1.0 in
    let hy = is_read y h.1.1 in
    found _ _ _ _ (number_back 0 id _ (id_less id h.0))
    (found _ _ _ _ (number_back 3 (unsigned_abs x) _ hx.less)
    (found _ _ _ _ (number_back 3 (unsigned_abs y) _ hy.less)
    (rw (id_test id h.0, hx.near, hy.near, hx.same, hy.same) refl)))
act_back (Change (SetCap id c)) h =
    found _ _ _ _ (number_back 0 id _ (id_less id h.0))
    (found _ _ _ _ (number_back 6 c _ (cap_less c h.1))
    (rw (id_test id h.0, cap_test c h.1) refl))
act_back Draw h = refl

pub act_are_words : (act : Act) → AreWords (act_words act)
act_are_words (Change (Add id x y c)) =
    (literal (codes "add") (omega arith) refl, (decimal_word 0 _, (decimal_word 3 _, (decimal_word 3 _, (decimal_word 6 _, tt)))))
act_are_words (Change (Remove id)) = (literal (codes "remove") (omega arith) refl, (decimal_word 0 _, tt))
act_are_words (Change (Move id x y)) =
    (literal (codes "move") (omega arith) refl, (decimal_word 0 _, (decimal_word 3 _, (decimal_word 3 _, tt))))
act_are_words (Change (SetCap id c)) = (literal (codes "cap") (omega arith) refl, (decimal_word 0 _, (decimal_word 6 _, tt)))
act_are_words Draw = (literal (codes "tree") (omega arith) refl, tt)

limited_back : (callers before caller : ℕ) (act : Act) → before < 65536 → 1 ≤ caller → caller ≤ callers
    → limited callers before caller (Some act) ≡ Ok (Step caller act)
unfolding limited
limited_back callers before caller act room some few =
    let none : nat_le 65536 before ≡ false = lt-leb 65536 before room in
    rw (none, le-leb 1 caller some, le-leb caller callers few) refl

-- the line of a step
pub step_line_back : (callers before caller : ℕ) (act : Act) → before < 65536 → 1 ≤ caller → caller ≤ callers → callers ≤ 16 → IsAct act
    → line_of callers before (body_of (decimal_text 0 caller) (act_words act)) ≡ Ok (Step caller act)
unfolding line_of said_by step_of
step_line_back callers before caller act room some few fit within =
    let line = body_of (decimal_text 0 caller) (act_words act) in
    let less : caller < 10 ^ 18 = omega arith in
    rw (
      printable line (line-body (decimal_text 0 caller) (act_words act) (decimal_word 0 caller) (act_are_words act)),
      words_of-body (decimal_text 0 caller) (act_words act) (decimal_word 0 caller) (act_are_words act),
      not_end caller,
      digits_alone caller,
    )
    (found _ _ _ _ (kind_back act)
    (found _ _ _ _ (number_back 0 caller (act_words act) less)
    (found _ _ _ _ (act_back act within) (limited_back callers before caller act room some few))))

-- the line of the end
pub end_line_back : (callers before : ℕ) → line_of callers before (codes "end") ≡ Ok End
unfolding line_of said_by words_of
end_line_back callers before = refl

no_fault : (callers : ℕ) → IsCallerCount callers → callers_fault callers ≡ None
unfolding callers_fault
no_fault callers h = rw (le-leb 1 callers h.some, le-leb callers 16 h.few) refl

-- the first line
pub callers_line_back : (callers : ℕ) → IsCallerCount callers → callers_of (body_of (codes "callers") (decimal_text 0 callers ∷ [])) ≡ Ok callers
unfolding callers_of
callers_line_back callers h =
    let less : callers < 10 ^ 18 = omega (arith, h.few) in
    found _ _ _ _ (fields_back (codes "callers") (decimal_text 0 callers ∷ []) 1 (literal (codes "callers") (omega arith) refl) (decimal_word 0 callers, tt) refl refl)
    (found _ _ _ _ (number_back 0 callers [] less)
    (found _ _ tt _ (ap refuse (no_fault callers h)) refl))
