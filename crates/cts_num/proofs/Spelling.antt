-- The canonical text of a value writes that value.
use Rattle.std.proofs.Common.{◌≡◌, ℕ, zero, suc, ◌+◌, ◌-◌, ◌*◌, ◌/◌, ◌%◌, ◌^◌, ◌<◌, ◌≤◌, List, [], ◌∷◌, ◌++◌, length, get_or, take, filter, refl, ap, ◌∙◌, subst, inl, inr, ⊎_elim, arith, length-append, pow-suc, eq-zero-or-pos, div-add-mod', mod-lt}
use Rattle.std.proofs.Math.Nat.{pow-zero}
use Rattle.std.proofs.lemmas.Bool.{cases_lt}
use Rattle.std.proofs.lemmas.Int.Digits.{digits_value_push}
use Rattle.std.proofs.lemmas.List.{get_or_append_left, get_or_push, get_or_at, get_or-append_right}
use Rattle.std.proofs.lemmas.List.Elements.{filter-append}
use Rattle.std.proofs.lemmas.Str.{digit_value_digit}
use Rattle.std.specs.Char.{IsAsciiDigit, is_ascii_digit, digit_value}
use Rattle.std.specs.Str.Parse.{digits_value, digits_value_after}
use Rattle.cts_num.specs.Decimal.{glyph, digits_text, whole_text, padded_text}
use Rattle.cts_num.specs.Laws.{DecimalIsReadBack}
use Rattle.cts_num.specs.Number.{digit_number}
use Rattle.cts_num.specs.Reading.{IsDecimal}
use Rattle.cts_num.proofs.Fronts.{AllDigitsIn, HasPoint, digit_passes, digit_number-all}
use Rattle.cts_num.proofs.Steps.{whole_value, point_value}
use Rattle.cts_num.proofs.Texts.{ten_pos, digits_text_step, digits_text_zero, whole_text-digits, whole_text_one, whole_text_step, padded_text-zero, padded_text_step, length-padded_text, decimal_text-zero, decimal_text-some}

-- a text of digits that write n
pub record Spells (xs : List ℕ) (n : ℕ) : Type 0 where
  pub only : filter is_ascii_digit xs ≡ xs
  pub each : (k : ℕ) → k < length xs → IsAsciiDigit (get_or xs k 0)
  pub number : digits_value 10 xs ≡ n

spells_none : Spells [] 0
spells_none = record { only = refl; each = λ k lt. absurd (omega arith); number = refl }

spells_push : (xs : List ℕ) (n d : ℕ) → d < 10 → Spells xs n → Spells (xs ++ glyph d ∷ []) (n * 10 + d)
spells_push xs n d lt h =
    let digit : IsAsciiDigit (glyph d) = (omega arith, omega arith) in
    let v : digit_value (glyph d) ≡ d = omega (arith, digit_value_digit (glyph d) digit) in
    record {
      only = filter-append is_ascii_digit xs (glyph d ∷ []) ∙ rw (h.only, digit_passes (glyph d) digit) refl;
      each = λ k less. ⊎_elim (λ lo. rw (get_or_append_left xs (glyph d ∷ []) 0 k lo) (h.each k lo))
          (λ hi. let e : length xs ≡ k = omega (arith, length-append xs (glyph d ∷ [])) in rw (get_or_push xs (glyph d) 0 k e) digit)
          (cases_lt k (length xs));
      number = digits_value_push 10 xs (glyph d) ∙ rw (h.number, v) refl;
    }

spells_digits_by : (turns n : ℕ) → n ≤ turns → Spells (digits_text n) n
spells_digits_by zero n le = let e : n ≡ 0 = omega arith in rw (e, digits_text_zero) spells_none
spells_digits_by (suc turns) n le =
    elim (eq-zero-or-pos n) [
      | inl e ↦ rw (e, digits_text_zero) spells_none
      | inr pos ↦
          let front = spells_digits_by turns (n / 10) (omega arith) in
          let e : n / 10 * 10 + n % 10 ≡ n = omega arith in
          rw (digits_text_step n pos) (subst (Spells (digits_text (n / 10) ++ glyph (n % 10) ∷ [])) e (spells_push (digits_text (n / 10)) (n / 10) (n % 10) (omega arith) front))
    ]

pub spells_whole : (n : ℕ) → Spells (whole_text n) n
spells_whole n =
    elim (eq-zero-or-pos n) [
      | inl e ↦ rw (e, whole_text_one 0 (omega arith)) (spells_push [] 0 0 (omega arith) spells_none)
      | inr pos ↦ rw (whole_text-digits n pos) (spells_digits_by n n (omega arith))
    ]

pub spells_padded : (w n : ℕ) → n < 10 ^ w → Spells (padded_text w n) n
spells_padded zero n lt = let small : n < 1 = omega (arith, lt, pow-zero 10) in let e : n ≡ 0 = omega arith in rw (padded_text-zero n small, e) spells_none
spells_padded (suc w) n lt =
    let front = spells_padded w (n / 10) (omega (arith, pow-suc 10 w)) in
    let e : n / 10 * 10 + n % 10 ≡ n = omega arith in
    let s : suc w ≡ w + 1 = omega arith in
    rw (s, padded_text_step w n) (subst (Spells (padded_text w (n / 10) ++ glyph (n % 10) ∷ [])) e (spells_push (padded_text w (n / 10)) (n / 10) (n % 10) (omega arith) front))

-- two texts of digits with a point between

value_after_append : (n : ℕ) (xs ys : List ℕ) → digits_value_after 10 n (xs ++ ys) ≡ digits_value_after 10 (digits_value_after 10 n xs) ys
value_after_append n [] ys = refl
value_after_append n (x ∷ xs) ys = value_after_append (n * 10 + digit_value x) xs ys

value_after_is : (n : ℕ) (ys : List ℕ) → digits_value_after 10 n ys ≡ n * 10 ^ length ys + digits_value 10 ys
value_after_is n [] = omega (arith, pow-zero 10)
value_after_is n (y ∷ ys) =
    let d = digit_value y in
    let p = pow-suc 10 (length ys) in
    let left = value_after_is (n * 10 + d) ys in
    let right = value_after_is (0 * 10 + d) ys in
    let unit : n * 10 ^ suc (length ys) ≡ n * (10 ^ length ys * 10) = ap (λ x. n * x) p in
    omega (arith, left, right, unit)

pub number_of_two : (xs ys : List ℕ) (a b : ℕ) → Spells xs a → Spells ys b → digit_number (xs ++ (46 ∷ ys)) ≡ a * 10 ^ length ys + b
unfolding digit_number
number_of_two xs ys a b f g =
    let digits : filter is_ascii_digit (xs ++ (46 ∷ ys)) ≡ xs ++ ys = filter-append is_ascii_digit xs (46 ∷ ys) ∙ rw (f.only, g.only) refl in
    ap (digits_value 10) digits ∙ value_after_append 0 xs ys ∙ value_after_is (digits_value 10 xs) ys ∙ rw (f.number, g.number) refl

point_between : (xs ys : List ℕ) (a : ℕ) → Spells xs a → HasPoint (xs ++ (46 ∷ ys)) (length xs)
point_between xs ys a f = record {
  inside = omega (arith, length-append xs (46 ∷ ys));
  point = get_or_at xs 46 ys 0 (length xs) refl;
  before = λ k lt. rw (get_or_append_left xs (46 ∷ ys) 0 k lt) (f.each k lt);
}

digits_behind : (xs ys : List ℕ) (b : ℕ) → Spells ys b → AllDigitsIn (xs ++ (46 ∷ ys)) (length xs + 1) (length (xs ++ (46 ∷ ys)))
digits_behind xs ys b g = record {
  each = λ k lo hi.
      let j = k - length xs - 1 in
      let e : k - length xs ≡ suc j = omega arith in
      let less : j < length ys = omega (arith, length-append xs (46 ∷ ys)) in
      rw (get_or-append_right xs (46 ∷ ys) (length xs) k 0 refl (omega arith), e) (g.each j less);
}

two_write : (xs ys : List ℕ) (a b places : ℕ) → 0 < places → length ys ≡ places → Spells xs a → Spells ys b → IsDecimal (xs ++ (46 ∷ ys)) places (a * 10 ^ places + b)
two_write xs ys a b places pos len f g =
    let text = xs ++ (46 ∷ ys) in
    let n = length text in
    let long : n ≡ length xs + suc (length ys) = length-append xs (46 ∷ ys) in
    let value = point_value text (length xs) n places (point_between xs ys a f) (omega arith) (omega arith) (λ one. absurd (omega arith)) (digits_behind xs ys b g) (record { each = λ k lo hi. absurd (omega arith) }) in
    let spare : places - (n - length xs - 1) ≡ 0 = omega arith in
    let same : digit_number (take n text) * 10 ^ (places - (n - length xs - 1)) ≡ a * 10 ^ places + b =
    rw (spare, pow-zero 10, digit_number-all text n (omega arith)) (omega (arith, number_of_two xs ys a b f g, ap (λ j. a * 10 ^ j) len)) in
    subst (IsDecimal text places) same value

pub number_of_one : (xs : List ℕ) (a : ℕ) → Spells xs a → digit_number xs ≡ a
unfolding digit_number
number_of_one xs a f = ap (digits_value 10) f.only ∙ f.number

length-whole_text-pos : (n : ℕ) → 0 < length (whole_text n)
length-whole_text-pos n =
    ⊎_elim (λ lt. omega (arith, ap length (whole_text_one n lt))) (λ le. omega (arith, ap length (whole_text_step n le), length-append (whole_text (n / 10)) (glyph (n % 10) ∷ []))) (cases_lt n 10)

one_writes : (xs : List ℕ) (a : ℕ) → 0 < length xs → Spells xs a → IsDecimal xs 0 a
one_writes xs a some f =
    let value = whole_value xs 0 some (record { each = λ k lo hi. f.each k hi }) in
    let same : digit_number xs * 10 ^ 0 ≡ a = omega (arith, pow-zero 10, number_of_one xs a f) in
    subst (IsDecimal xs 0) same value

pub decimal_is_read_back : DecimalIsReadBack
decimal_is_read_back places value =
    elim (eq-zero-or-pos places) [
      | inl e ↦ rw (e, decimal_text-zero value) (one_writes (whole_text value) value (length-whole_text-pos value) (spells_whole value))
      | inr pos ↦
          let whole = value / 10 ^ places in
          let rest = value % 10 ^ places in
          let less = mod-lt value (ten_pos places) in
          let h = two_write (whole_text whole) (padded_text places rest) whole rest places pos (length-padded_text places rest less) (spells_whole whole) (spells_padded places rest less) in
          rw (decimal_text-some places value pos) (subst (IsDecimal (whole_text whole ++ (46 ∷ padded_text places rest)) places) (div-add-mod' value (10 ^ places)) h)
    ]
