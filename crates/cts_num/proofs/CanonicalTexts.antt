-- A canonical text is that of the number of its digits.
use Rattle.std.proofs.Common.{◌≡◌, ◌⊎◌, ℕ, suc, ◌+◌, ◌*◌, ◌/◌, ◌%◌, ◌^◌, ◌<◌, ◌≤◌, ◌↔◌, Bool, true, false, cond, List, length, get_or, Option, Some, None, refl, sym, ap, ◌∙◌, inl, inr, arith, eq-zero-or-pos, div-add-mod', mod-lt}
use Rattle.std.specs.Char.{IsAsciiDigit}
use Rattle.std.specs.Str.{bytes_eq}
use Rattle.std.proofs.lemmas.Bool.Decides.{leb_tells}
use Rattle.std.proofs.lemmas.Slice.Eq.{bytes_eq-Decides}
use Rattle.cts_num.specs.Canonical.{canonical_of, CanonicalIsWritten}
use Rattle.cts_num.specs.Decimal.{decimal_text, whole_text, padded_text}
use Rattle.cts_num.specs.Number.{digit_number}
use Rattle.cts_num.proofs.Fronts.{byte_at_point}
use Rattle.cts_num.proofs.Spelling.{decimal_is_read_back, spells_whole, spells_padded, number_of_one, number_of_two}
use Rattle.cts_num.proofs.Texts.{ten_pos, length-padded_text, decimal_text-zero, decimal_text-some}

pub digit_number-decimal : (places number : ℕ) → digit_number (decimal_text places number) ≡ number
digit_number-decimal places number =
    elim (eq-zero-or-pos places) [
      | inl e ↦ rw (e, decimal_text-zero number) (number_of_one (whole_text number) number (spells_whole number))
      | inr pos ↦
          let whole = number / 10 ^ places in
          let rest = number % 10 ^ places in
          let less = mod-lt number (ten_pos places) in
          rw (decimal_text-some places number pos)
          (number_of_two (whole_text whole) (padded_text places rest) whole rest (spells_whole whole) (spells_padded places rest less)
          ∙ ap (λ j. whole * 10 ^ j + rest) (length-padded_text places rest less) ∙ div-add-mod' number (10 ^ places))
    ]

-- the texts' test

pub texts_agree : (xs ys : List ℕ) → bytes_eq xs ys ≡ true → xs ≡ ys
texts_agree xs ys = (bytes_eq-Decides xs ys).0

pub texts_same : (xs ys : List ℕ) → xs ≡ ys → bytes_eq xs ys ≡ true
texts_same xs ys = (bytes_eq-Decides xs ys).1

-- the three ways of a reading

pub canonical-too_great : (places : ℕ) (text : List ℕ) → 10 ^ 38 ≤ digit_number text → canonical_of places text ≡ None
unfolding canonical_of
canonical-too_great places text big =
    let number = digit_number text in
    let test = bytes_eq (decimal_text places number) text in
    elim (leb_tells (suc number) (10 ^ 38)) [
      | inl p ↦ absurd (omega (arith, p.1))
      | inr p ↦ rw p.0 (elim test as (λ b. cond {A = Option ℕ} b None None ≡ None) [ true ↦ refl | false ↦ refl ])
    ]

pub canonical-other : (places : ℕ) (text : List ℕ) → bytes_eq (decimal_text places (digit_number text)) text ≡ false → canonical_of places text ≡ None
unfolding canonical_of
canonical-other places text other = rw other refl

pub canonical-is : (places number : ℕ) (text : List ℕ) → bytes_eq (decimal_text places number) text ≡ true → number < 10 ^ 38 → canonical_of places text ≡ Some number
unfolding canonical_of
canonical-is places number text same small =
    let text_is : decimal_text places number ≡ text = texts_agree (decimal_text places number) text same in
    let number_is : digit_number text ≡ number = ap digit_number (sym text_is) ∙ digit_number-decimal places number in
    elim (leb_tells (suc number) (10 ^ 38)) [
      | inl p ↦ rw (number_is, same, p.0) refl
      | inr p ↦ absurd (omega (arith, p.1))
    ]

some_is : (m n : ℕ) → Some m ≡ Some n → m ≡ n
some_is m n e = cc

none_some : (n : ℕ) → None ≡ Some n → ⊥
none_some n e = cc

bool_cases : (b : Bool) → (b ≡ true) ⊎ (b ≡ false)
bool_cases true = inl refl
bool_cases false = inr refl

pub canonical_is_written : CanonicalIsWritten
canonical_is_written places number text =
    let found = digit_number text in (
      λ (is : canonical_of places text ≡ Some number).
          elim (bool_cases (bytes_eq (decimal_text places found) text)) [
            | inl same ↦ elim (leb_tells (suc found) (10 ^ 38)) [
              | inl p ↦
                  let e : found ≡ number = some_is found number (sym (canonical-is places found text same p.1) ∙ is) in
                  (sym (texts_agree (decimal_text places found) text same) ∙ ap (decimal_text places) e, omega (arith, e, p.1))
              | inr p ↦ absurd (none_some number (sym (canonical-too_great places text (omega (arith, p.1))) ∙ is))
            ]
            | inr other ↦ absurd (none_some number (sym (canonical-other places text other) ∙ is))
          ],
      λ w. canonical-is places number text (texts_same (decimal_text places number) text (sym w.0)) w.1,
    )

-- what is read so is read right
pub written_at : (places : ℕ) (text : List ℕ) (read : Option ℕ) → read ≡ canonical_of places text
    → (number : ℕ) → (read ≡ Some number) ↔ ((text ≡ decimal_text places number) × (number < 10 ^ 38))
written_at places text read same number =
    let w = canonical_is_written places number text in
    (λ is. w.0 (sym same ∙ is), λ is. same ∙ w.1 is)

-- a canonical text has digits and points alone
pub decimal-bytes : (places number k : ℕ) → k < length (decimal_text places number)
    → IsAsciiDigit (get_or (decimal_text places number) k 0) ⊎ (get_or (decimal_text places number) k 0 ≡ 46)
decimal-bytes places number k lt =
    let text = decimal_text places number in
    elim ((decimal_is_read_back places number).good k lt) [
      | inl digit ↦ inl digit
      | inr at ↦ inr (ap (λ i. get_or text i 0) at ∙ byte_at_point text (omega (arith, at)))
    ]
