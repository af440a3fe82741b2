-- Digits and points of a text, and the number that the digits of its front write.
use Rattle.std.proofs.Common.{◌≡◌, ◌⊎◌, ℕ, zero, suc, ◌+◌, ◌-◌, ◌*◌, ◌^◌, ◌<◌, ◌≤◌, true, false, cond, List, [], ◌∷◌, ◌++◌, length, get_or, take, filter, refl, sym, ap, ◌∙◌, inl, inr, arith, append-nil, pow-suc, mul_assoc, length-drop}
use Rattle.std.proofs.Math.Nat.{pow-zero}
use Rattle.std.proofs.lemmas.Bool.Decides.{leb_tells, eqb_tells}
use Rattle.std.proofs.lemmas.Int.Digits.{digits_value_push}
use Rattle.std.proofs.lemmas.List.{take_all}
use Rattle.std.proofs.lemmas.List.Elements.{filter_more}
use Rattle.std.proofs.lemmas.List.Sums.{position_or_len_is, passes_at_first}
use Rattle.std.proofs.lemmas.Str.{digit_value_digit}
use Rattle.std.specs.Char.{IsAsciiDigit, is_ascii_digit, digit_value}
use Rattle.std.specs.Str.Parse.{digits_value}
use Rattle.cts_num.specs.Number.{digit_number}
use Rattle.cts_num.specs.Reading.{is_point, point_place, fraction_length}

-- what the test on a byte tells

pub digit_tells : (b : ℕ) → ((is_ascii_digit b ≡ true) × IsAsciiDigit b) ⊎ ((is_ascii_digit b ≡ false) × ¬ IsAsciiDigit b)
digit_tells b =
    elim (leb_tells 48 b) [
      | inl p ↦ elim (leb_tells b 57) [
        | inl q ↦ inl (rw (p.0, q.0) refl, (p.1, q.1))
        | inr q ↦ inr (rw (p.0, q.0) refl, λ d. omega (arith, d.1))
      ]
      | inr p ↦ inr (rw p.0 refl, λ d. omega (arith, d.0))
    ]

pub digit_passes : (b : ℕ) → IsAsciiDigit b → is_ascii_digit b ≡ true
digit_passes b h = elim (digit_tells b) [ inl p ↦ p.0 | inr p ↦ absurd (p.1 h) ]

pub digit_fails : (b : ℕ) → ¬ IsAsciiDigit b → is_ascii_digit b ≡ false
digit_fails b h = elim (digit_tells b) [ inl p ↦ absurd (h p.1) | inr p ↦ p.0 ]

pub passes_digit : (b : ℕ) → is_ascii_digit b ≡ true → IsAsciiDigit b
passes_digit b h = elim (digit_tells b) [ inl p ↦ p.1 | inr p ↦ cc ]

pub fails_digit : (b : ℕ) → is_ascii_digit b ≡ false → ¬ IsAsciiDigit b
fails_digit b h = elim (digit_tells b) [ inl p ↦ cc | inr p ↦ p.1 ]

-- the bytes from i to before j are digits
pub record AllDigitsIn (text : List ℕ) (i j : ℕ) : Type 0 where
  pub each : (k : ℕ) → i ≤ k → k < j → IsAsciiDigit (get_or text k 0)

-- the bytes from i to before j are zeros
pub record AllZerosIn (text : List ℕ) (i j : ℕ) : Type 0 where
  pub each : (k : ℕ) → i ≤ k → k < j → get_or text k 0 ≡ 48

-- the first point stands at q
pub record HasPoint (text : List ℕ) (q : ℕ) : Type 0 where
  pub inside : q < length text
  pub point : get_or text q 0 ≡ 46
  pub before : (k : ℕ) → k < q → IsAsciiDigit (get_or text k 0)

pub point_place_is : (text : List ℕ) (q : ℕ) → HasPoint text q → point_place text ≡ q
point_place_is text q h =
    position_or_len_is is_point text q 0 (omega (arith, h.inside))
    (λ k lt. let d = h.before k lt in elim (eqb_tells (get_or text k 0) 46) [ inl e ↦ absurd (omega (arith, d.1, d.0, e.1)) | inr e ↦ e.0 ])
    (λ _. rw h.point refl)

pub point_place_none : (text : List ℕ) → AllDigitsIn text 0 (length text) → point_place text ≡ length text
point_place_none text h =
    position_or_len_is is_point text (length text) 0 (omega arith)
    (λ k lt. let d = h.each k (omega arith) lt in elim (eqb_tells (get_or text k 0) 46) [ inl e ↦ absurd (omega (arith, d.1, d.0, e.1)) | inr e ↦ e.0 ])
    (λ lt. absurd (omega arith))

pub byte_at_point : (text : List ℕ) → point_place text < length text → get_or text (point_place text) 0 ≡ 46
byte_at_point text lt =
    let e = passes_at_first is_point text 0 lt in
    elim (eqb_tells (get_or text (point_place text) 0) 46) [ inl p ↦ p.1 | inr p ↦ cc ]

pub fraction_length_is : (text : List ℕ) → fraction_length text ≡ length text - (point_place text + 1)
fraction_length_is text = length-drop (point_place text + 1) text

-- the number of a front

pub digit_number-none : (text : List ℕ) → digit_number (take 0 text) ≡ 0
unfolding digit_number
digit_number-none text = refl

pub digit_number-all : (text : List ℕ) (n : ℕ) → length text ≤ n → digit_number (take n text) ≡ digit_number text
digit_number-all text n h = ap digit_number (take_all n text h)

pub digit_number_more : (text : List ℕ) (i : ℕ) → i < length text → IsAsciiDigit (get_or text i 0) → digit_number (take (i + 1) text) ≡ digit_number (take i text) * 10 + (get_or text i 0 - 48)
unfolding digit_number
digit_number_more text i lt d =
    let b = get_or text i 0 in
    let front = filter is_ascii_digit (take i text) in
    let v : digit_value b ≡ b - 48 = omega (arith, digit_value_digit b d) in
    ap (digits_value 10) (filter_more is_ascii_digit text i 0 lt ∙ ap (λ t. front ++ cond t (b ∷ []) []) (digit_passes b d))
    ∙ digits_value_push 10 front b ∙ ap (λ n. digits_value 10 front * 10 + n) v

pub digit_number_skip : (text : List ℕ) (i : ℕ) → i < length text → ¬ IsAsciiDigit (get_or text i 0) → digit_number (take (i + 1) text) ≡ digit_number (take i text)
unfolding digit_number
digit_number_skip text i lt d =
    let b = get_or text i 0 in
    let front = filter is_ascii_digit (take i text) in
    ap (digits_value 10) (filter_more is_ascii_digit text i 0 lt ∙ ap (λ t. front ++ cond t (b ∷ []) []) (digit_fails b d) ∙ append-nil front)

-- past a point nothing is added
pub digit_number_point : (text : List ℕ) (q : ℕ) → HasPoint text q → digit_number (take (q + 1) text) ≡ digit_number (take q text)
digit_number_point text q h = digit_number_skip text q h.inside (λ d. omega (arith, d.0, h.point))

times_ten : (n j : ℕ) → n * 10 ^ suc j ≡ n * 10 ^ j * 10
times_ten n j = ap (λ p. n * p) (pow-suc 10 j) ∙ sym (mul_assoc n (10 ^ j) 10)

pub digit_number_zeros : (text : List ℕ) (i j : ℕ) → i + j ≤ length text → AllZerosIn text i (i + j) → digit_number (take (i + j) text) ≡ digit_number (take i text) * 10 ^ j
digit_number_zeros text i zero le h = let e : i + 0 ≡ i = omega arith in rw (e, pow-zero 10) (omega arith)
digit_number_zeros text i (suc j) le h =
    let e : i + suc j ≡ i + j + 1 = omega arith in
    let z = h.each (i + j) (omega arith) (omega arith) in
    let more = digit_number_more text (i + j) (omega arith) (omega (arith, z), omega (arith, z)) in
    let front = digit_number_zeros text i j (omega arith) (record { each = λ k lo hi. h.each k lo (omega arith) }) in
    ap (λ n. digit_number (take n text)) e ∙ more ∙ omega (arith, z, front, times_ten (digit_number (take i text)) j)

-- the number of a text by the number of a front, with less than one unit of the front left
pub record Remainder (n front unit : ℕ) : Type 0 where
  pub rest : ℕ
  pub less : rest < unit
  pub sum : n ≡ front * unit + rest

pub digit_number_rest : (text : List ℕ) (i j : ℕ) → i + j ≤ length text → AllDigitsIn text i (i + j) → Remainder (digit_number (take (i + j) text)) (digit_number (take i text)) (10 ^ j)
digit_number_rest text i zero le h = let e : i + 0 ≡ i = omega arith in rw (e, pow-zero 10) (record { rest = 0; less = omega arith; sum = omega arith })
digit_number_rest text i (suc j) le h =
    let e : i + suc j ≡ i + j + 1 = omega arith in
    let d = h.each (i + j) (omega arith) (omega arith) in
    let more = digit_number_more text (i + j) (omega arith) d in
    let front = digit_number_rest text i j (omega arith) (record { each = λ k lo hi. h.each k lo (omega arith) }) in
    let p = pow-suc 10 j in
    record {
      rest = front.rest * 10 + (get_or text (i + j) 0 - 48);
      less = omega (arith, d.0, d.1, front.less, p);
      sum = ap (λ n. digit_number (take n text)) e ∙ more ∙ omega (arith, front.sum, d.0, times_ten (digit_number (take i text)) j);
    }

-- a longer front has no lesser number
pub digit_number-grows : (text : List ℕ) (i j : ℕ) → i + j ≤ length text → digit_number (take i text) ≤ digit_number (take (i + j) text)
digit_number-grows text i zero le = let e : i + 0 ≡ i = omega arith in rw e (omega arith)
digit_number-grows text i (suc j) le =
    let e : i + suc j ≡ i + j + 1 = omega arith in
    let front = digit_number-grows text i j (omega arith) in
    elim (digit_tells (get_or text (i + j) 0)) [
      | inl d ↦ rw e (omega (arith, front, digit_number_more text (i + j) (omega arith) d.1))
      | inr d ↦ rw e (omega (arith, front, digit_number_skip text (i + j) (omega arith) d.1))
    ]
