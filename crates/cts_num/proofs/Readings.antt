-- A text has one reading at most.
use Rattle.std.proofs.Common.{◌≡◌, ◌↔◌, ℕ, suc, ◌+◌, ◌-◌, ◌*◌, ◌^◌, ◌<◌, ◌≤◌, List, length, get_or, take, refl, sym, ap, ◌∙◌, subst, inr, ⊎_elim, arith, Result, Ok, Err, pow-suc, mul_assoc}
use Rattle.std.proofs.lemmas.Nat.{same_from_place, pow-add}
use Rattle.std.proofs.lemmas.Bool.{cases_lt}
use Rattle.std.specs.Char.{IsAsciiDigit}
use Rattle.cts_num.specs.Laws.{ValueIsUnique, ReadingIsUnique}
use Rattle.cts_num.specs.Number.{digit_number}
use Rattle.cts_num.specs.Reading.{point_place, fraction_length, IsDecimal, IsEmptyDecimal, IsFirstBadByte, IsFirstTooFine, IsReading}
use Rattle.cts_num.specs.declared.read.DecimalFault.{DecimalFault}
use Rattle.cts_num.specs.declared.read.DecimalFault.TheVariants.{Empty, BadByte, TooFine, TooGreat}
use Rattle.cts_num.proofs.Texts.{ten_pos}
use Rattle.cts_num.proofs.Fronts.{digit_number_more, digit_number_rest, digit_number-all, fraction_length_is}

pub value_is_unique : ValueIsUnique
value_is_unique text places v w a b =
    let k = fraction_length text in
    let e : v * 10 ^ k + 0 ≡ w * 10 ^ k + 0 = omega (arith, a.value_is, b.value_is) in
    (same_from_place v 0 w 0 (10 ^ k) (ten_pos k) (ten_pos k) e).0

-- a digit other than 0 past the places leaves no value

no_whole : (v e r p n a t a0 d : ℕ) → 0 < p → t < r → 0 < d → d < 10 → v * (e * (r * 10) * p) ≡ n * p → n ≡ a * r + t → a ≡ a0 * 10 + d → ⊥
no_whole v e r p n a t a0 d pos less lo hi value sum last =
    let x : v * (e * (r * 10)) * p + 0 ≡ n * p + 0 = omega (arith, value, mul_assoc v (e * (r * 10)) p) in
    let y : v * (e * (r * 10)) ≡ n = (same_from_place (v * (e * (r * 10))) 0 n 0 p pos pos x).0 in
    let z : a * r + t ≡ (v * e * 10) * r + 0 = omega arith in
    let w : a ≡ v * e * 10 = (same_from_place a t (v * e * 10) 0 r less (omega arith) z).0 in
    omega (arith, w, last)

units : (e r p : ℕ) → 10 ^ (e + suc r + p) ≡ 10 ^ e * (10 ^ r * 10) * 10 ^ p
units e r p = pow-add 10 (e + suc r) p ∙ ap (λ x. x * 10 ^ p) (pow-add 10 e (suc r) ∙ ap (λ x. 10 ^ e * x) (pow-suc 10 r))

value_by_units : (v n k e r p : ℕ) → k ≡ e + suc r + p → v * 10 ^ k ≡ n * 10 ^ p → v * (10 ^ e * (10 ^ r * 10) * 10 ^ p) ≡ n * 10 ^ p
value_by_units v n k e r p h value = rw (← units e r p, ← h) value

pub fine_is_no_value : (text : List ℕ) (places at v : ℕ) → IsFirstTooFine text places at → IsDecimal text places v → ⊥
fine_is_no_value text places at v f h =
    let q = point_place text in
    let past = f.past in
    let inside = f.inside in
    let digit : (k : ℕ) → at ≤ k → k < length text → IsAsciiDigit (get_or text k 0) =
    λ k lo hi. ⊎_elim (λ d. d) (λ e. absurd (omega arith)) (f.good k hi) in
    let d = digit at (omega arith) inside in
    let r = length text - at - 1 in
    let whole : at + 1 + r ≡ length text = omega arith in
    let rest = digit_number_rest text (at + 1) r (omega arith) (record { each = λ k lo hi. digit k (omega arith) (omega arith) }) in
    let n : digit_number (take (at + 1 + r) text) ≡ digit_number text = digit_number-all text (at + 1 + r) (omega arith) in
    let more = digit_number_more text at inside d in
    let extra = at - q - places - 1 in
    let k : fraction_length text ≡ extra + suc r + places = omega (arith, fraction_length_is text) in
    let value = value_by_units v (digit_number text) (fraction_length text) extra r places k h.value_is in
    no_whole v (10 ^ extra) (10 ^ r) (10 ^ places) (digit_number text) (digit_number (take (at + 1) text)) rest.rest (digit_number (take at text)) (get_or text at 0 - 48)
    (ten_pos places) rest.less (omega (arith, d.0, f.fine)) (omega (arith, d.1)) value (rw n at rest.sum) more

-- two readings are one

decimal_not_empty : (text : List ℕ) (places v : ℕ) → IsEmptyDecimal text → IsDecimal text places v → ⊥
decimal_not_empty text places v e h =
    let d = h.some_digit in
    ⊎_elim (λ e. omega (arith, d.1, ap length e)) (λ e. let lt : d.0 < 1 = omega (arith, d.1, ap length e) in let z : d.0 ≡ 0 = omega arith in let b : get_or text d.0 0 ≡ 46 = ap (λ i. get_or text i 0) z ∙ ap (λ t. get_or t 0 0) e in omega (arith, d.2.0, b)) e

bad_not_empty : (text : List ℕ) (at : ℕ) → IsEmptyDecimal text → IsFirstBadByte text at → ⊥
bad_not_empty text at e h =
    ⊎_elim (λ e. omega (arith, h.inside, ap length e)) (λ e. let lt : at < 1 = omega (arith, h.inside, ap length e) in let z : at ≡ 0 = omega arith in h.bad (inr (z ∙ sym (ap point_place e)))) e

fine_not_empty : (text : List ℕ) (places at : ℕ) → IsEmptyDecimal text → IsFirstTooFine text places at → ⊥
fine_not_empty text places at e h =
    ⊎_elim (λ e. omega (arith, h.inside, ap length e)) (λ e. omega (arith, h.inside, h.past, ap length e)) e

bad_is_first : (text : List ℕ) (i j : ℕ) → IsFirstBadByte text i → IsFirstBadByte text j → i ≡ j
bad_is_first text i j a b =
    ⊎_elim (λ lt. absurd (a.bad (b.first i lt))) (λ le. ⊎_elim (λ lt. absurd (b.bad (a.first j lt))) (λ ge. omega arith) (cases_lt j i)) (cases_lt i j)

fine_is_first : (text : List ℕ) (places i j : ℕ) → IsFirstTooFine text places i → IsFirstTooFine text places j → i ≡ j
fine_is_first text places i j a b =
    ⊎_elim (λ lt. absurd (a.fine (b.first i a.past lt))) (λ le. ⊎_elim (λ lt. absurd (b.fine (a.first j b.past lt))) (λ ge. omega arith) (cases_lt j i)) (cases_lt i j)

pub reading_is_unique : ReadingIsUnique
reading_is_unique text places (Ok v) (Ok w) a b = ap Ok (value_is_unique text places v w a.0 b.0)
reading_is_unique text places (Ok v) (Err Empty) a b = absurd (decimal_not_empty text places v b a.0)
reading_is_unique text places (Ok v) (Err (BadByte j)) a b = absurd (b.bad (a.0.good j b.inside))
reading_is_unique text places (Ok v) (Err (TooFine j)) a b = absurd (fine_is_no_value text places j v b a.0)
reading_is_unique text places (Ok v) (Err TooGreat) a b = absurd (omega (arith, value_is_unique text places v b.0 a.0 b.1, a.1, b.2))
reading_is_unique text places (Err Empty) (Ok w) a b = absurd (decimal_not_empty text places w a b.0)
reading_is_unique text places (Err Empty) (Err Empty) a b = refl
reading_is_unique text places (Err Empty) (Err (BadByte j)) a b = absurd (bad_not_empty text j a b)
reading_is_unique text places (Err Empty) (Err (TooFine j)) a b = absurd (fine_not_empty text places j a b)
reading_is_unique text places (Err Empty) (Err TooGreat) a b = absurd (decimal_not_empty text places b.0 a b.1)
reading_is_unique text places (Err (BadByte i)) (Ok w) a b = absurd (a.bad (b.0.good i a.inside))
reading_is_unique text places (Err (BadByte i)) (Err Empty) a b = absurd (bad_not_empty text i b a)
reading_is_unique text places (Err (BadByte i)) (Err (BadByte j)) a b = ap (λ k. Err (BadByte k)) (bad_is_first text i j a b)
reading_is_unique text places (Err (BadByte i)) (Err (TooFine j)) a b = absurd (a.bad (b.good i a.inside))
reading_is_unique text places (Err (BadByte i)) (Err TooGreat) a b = absurd (a.bad (b.1.good i a.inside))
reading_is_unique text places (Err (TooFine i)) (Ok w) a b = absurd (fine_is_no_value text places i w a b.0)
reading_is_unique text places (Err (TooFine i)) (Err Empty) a b = absurd (fine_not_empty text places i b a)
reading_is_unique text places (Err (TooFine i)) (Err (BadByte j)) a b = absurd (b.bad (a.good j b.inside))
reading_is_unique text places (Err (TooFine i)) (Err (TooFine j)) a b = ap (λ k. Err (TooFine k)) (fine_is_first text places i j a b)
reading_is_unique text places (Err (TooFine i)) (Err TooGreat) a b = absurd (fine_is_no_value text places i b.0 a b.1)
reading_is_unique text places (Err TooGreat) (Ok w) a b = absurd (omega (arith, value_is_unique text places a.0 w a.1 b.0, a.2, b.1))
reading_is_unique text places (Err TooGreat) (Err Empty) a b = absurd (decimal_not_empty text places a.0 b a.1)
reading_is_unique text places (Err TooGreat) (Err (BadByte j)) a b = absurd (b.bad (a.1.good j b.inside))
reading_is_unique text places (Err TooGreat) (Err (TooFine j)) a b = absurd (fine_is_no_value text places j a.0 b a.1)
reading_is_unique text places (Err TooGreat) (Err TooGreat) a b = refl

-- a reading is the reading
pub reading_is : (text : List ℕ) (places : ℕ) (r s : Result ℕ DecimalFault) → IsReading text places r → (r ≡ s) ↔ IsReading text places s
reading_is text places r s a = (λ e. subst (IsReading text places) e a, λ b. reading_is_unique text places r s a b)
