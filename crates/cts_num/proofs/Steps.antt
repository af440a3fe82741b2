-- What each part of reading a decimal text shows of the text.
use Rattle.std.proofs.Common.{◌≡◌, ◌≢◌, ℕ, ◌+◌, ◌-◌, ◌*◌, ◌^◌, ◌<◌, ◌≤◌, min, List, length, get_or, take, sym, ap, ◌∙◌, inl, inr, ⊎_elim, arith, Result, Ok, Err, MatchResult, mul-le-mul_right, pow-suc, mul-le-mul_left, suc, subst}
use Rattle.std.proofs.Math.Nat.{pow-zero}
use Rattle.std.proofs.lemmas.Nat.{pow-add}
use Rattle.std.proofs.lemmas.Bool.{cases_lt}
use Rattle.std.specs.Char.{IsAsciiDigit}
use Rattle.cts_num.specs.Number.{digit_number}
use Rattle.cts_num.specs.Reading.{fraction_length, IsGoodByte, IsDecimal, IsFirstBadByte, IsReading, IsTailFault}
use Rattle.cts_num.specs.declared.read.DecimalFault.{DecimalFault}
use Rattle.cts_num.specs.declared.read.DecimalFault.TheVariants.{Empty, BadByte, TooFine, TooGreat}
use Rattle.cts_num.proofs.Texts.{ten_pos}
use Rattle.cts_num.proofs.Fronts.{digit_number_rest, AllDigitsIn, AllZerosIn, HasPoint, point_place_is, point_place_none, byte_at_point, fraction_length_is, digit_number-all, digit_number_zeros}

-- a number kept below a limit, with one more digit
pub capped_below : (n d number : ℕ) → number ≡ min n (10 ^ 18) → number * 10 + d < 10 ^ 18 → number * 10 + d ≡ min (n * 10 + d) (10 ^ 18)
capped_below n d number e h = omega arith

digit_first : (text : List ℕ) (i end : ℕ) → IsAsciiDigit (get_or text i 0) → ((k : ℕ) → i + 1 ≤ k → k < end → IsAsciiDigit (get_or text k 0)) → AllDigitsIn text i end
digit_first text i end here next = record {
  each = λ k lo hi. ⊎_elim (λ lt. let e : i ≡ k = omega arith in subst (λ j. IsAsciiDigit (get_or text j 0)) e here) (λ le. next k le hi) (cases_lt k (i + 1));
}

pub capped_rest : (text : List ℕ) (i end number : ℕ) → i < end → end ≤ length text → IsAsciiDigit (get_or text i 0) → ((k : ℕ) → i + 1 ≤ k → k < end → IsAsciiDigit (get_or text k 0)) → number ≡ min (digit_number (take i text)) (10 ^ 18) → 10 ^ 17 ≤ number → 10 ^ 18 ≡ min (digit_number (take end text)) (10 ^ 18)
capped_rest text i end number lt le here next e large =
    let digits = digit_first text i end here next in
    let j = end - i - 1 in
    let whole : i + suc j ≡ end = omega arith in
    let front = digit_number (take i text) in
    let rest = digit_number_rest text i (suc j) (omega arith) (record { each = λ k lo hi. digits.each k lo (omega arith) }) in
    let one = ten_pos j in
    let more : front * 10 * 1 ≤ front * 10 * 10 ^ j = mul-le-mul_left (front * 10) one in
    let unit : front * 10 ^ suc j ≡ front * 10 * 10 ^ j = ap (λ x. front * x) (pow-suc 10 j) ∙ omega arith in
    let n : digit_number (take (i + suc j) text) ≡ digit_number (take end text) = ap (λ k. digit_number (take k text)) whole in
    omega (arith, rest.sum, n, unit, more)

-- one more index of a range
pub range_more : (P : ℕ → Type 0) (i j : ℕ) → ((k : ℕ) → i ≤ k → k < j → P k) → P j → (k : ℕ) → i ≤ k → k < j + 1 → P k
range_more P i j below here k lo hi =
    ⊎_elim (λ lt. below k lo lt) (λ le. let e : j ≡ k = omega arith in rw (← e) here) (cases_lt k j)

-- a bad byte

pub bad_before_point : (text : List ℕ) (at : ℕ) → at < length text → AllDigitsIn text 0 at → ¬ IsAsciiDigit (get_or text at 0) → get_or text at 0 ≢ 46 → IsFirstBadByte text at
bad_before_point text at inside digits bad other = record {
  inside = inside;
  bad = λ good. ⊎_elim bad (λ e. other (ap (λ k. get_or text k 0) e ∙ byte_at_point text (omega arith))) good;
  first = λ k lt. inl (digits.each k (omega arith) lt);
}

pub good_around_point : (text : List ℕ) (q at : ℕ) → HasPoint text q → AllDigitsIn text (q + 1) at → (k : ℕ) → k < at → IsGoodByte text k
good_around_point text q at point digits k lt =
    ⊎_elim (λ before. inl (point.before k before))
    (λ le. ⊎_elim (λ after. inl (digits.each k (omega arith) lt)) (λ ge. let e : k ≡ q = omega arith in inr (e ∙ sym (point_place_is text q point))) (cases_lt q k))
    (cases_lt k q)

pub bad_after_point : (text : List ℕ) (q at : ℕ) → HasPoint text q → q < at → at < length text → AllDigitsIn text (q + 1) at → ¬ IsAsciiDigit (get_or text at 0) → IsFirstBadByte text at
bad_after_point text q at point past inside digits bad = record {
  inside = inside;
  bad = λ good. ⊎_elim bad (λ e. omega (arith, point_place_is text q point)) good;
  first = good_around_point text q at point digits;
}

-- the digits of a fraction and of what follows it
digits_joined : (text : List ℕ) (i j n : ℕ) → AllDigitsIn text i j → ((k : ℕ) → j ≤ k → k < n → IsAsciiDigit (get_or text k 0)) → AllDigitsIn text i n
digits_joined text i j n a b = record { each = λ k lo hi. ⊎_elim (λ lt. a.each k lo lt) (λ le. b k le hi) (cases_lt k j) }

pub tail_fault : (text : List ℕ) (q kept places : ℕ) (fault : DecimalFault) → HasPoint text q → q < kept → kept ≡ min (length text) (q + 1 + places) → AllDigitsIn text (q + 1) kept → IsTailFault text kept fault → IsReading text places (Err fault)
tail_fault text q kept places Empty point past e digits h = absurd h
tail_fault text q kept places (BadByte at) point past e digits h =
    bad_after_point text q at point (omega (arith, h.0)) h.1 (digits_joined text (q + 1) kept at digits h.3) h.2
tail_fault text q kept places (TooFine at) point past e digits h =
    let place = point_place_is text q point in
    let lo = h.0 in
    let hi = h.1 in
    record {
      good = good_around_point text q (length text) point (digits_joined text (q + 1) kept (length text) digits h.4);
      inside = hi;
      past = omega arith;
      fine = h.2;
      first = λ k after lt. h.3 k (omega arith) lt;
    }
tail_fault text q kept places TooGreat point past e digits h = absurd h

-- a value

pub whole_value : (text : List ℕ) (places : ℕ) → 0 < length text → AllDigitsIn text 0 (length text) → IsDecimal text places (digit_number text * 10 ^ places)
whole_value text places some digits =
    let k : fraction_length text ≡ 0 = omega (arith, fraction_length_is text, point_place_none text digits) in
    record {
      good = λ at lt. inl (digits.each at (omega arith) lt);
      some_digit = (0, some, digits.each 0 (omega arith) some);
      value_is = rw (k, pow-zero 10) (omega arith);
    }

value_from_front : (n front kept spare zeros places k : ℕ) → n ≡ front * 10 ^ zeros → k ≡ kept + zeros → places ≡ kept + spare → front * 10 ^ spare * 10 ^ k ≡ n * 10 ^ places
value_from_front n front kept spare zeros places k e f g =
    let a = pow-add 10 kept zeros in
    let b = pow-add 10 kept spare in
    rw (e, f, g, a, b) (omega arith)

pub point_value : (text : List ℕ) (q kept places : ℕ) → HasPoint text q → q < kept → kept ≡ min (length text) (q + 1 + places) → (length text ≡ 1 → get_or text 0 0 ≢ 46) → AllDigitsIn text (q + 1) kept → AllZerosIn text kept (length text) → IsDecimal text places (digit_number (take kept text) * 10 ^ (places - (kept - q - 1)))
point_value text q kept places point past e some digits zeros =
    let inside = point.inside in
    let rest = length text - kept in
    let whole : kept + rest ≡ length text = omega arith in
    let tail = digit_number_zeros text kept rest (omega arith) (record { each = λ k lo hi. zeros.each k lo (omega arith) }) in
    let n : digit_number text ≡ digit_number (take kept text) * 10 ^ rest = sym (digit_number-all text (kept + rest) (omega arith)) ∙ tail in
    let zero_digit : (k : ℕ) → kept ≤ k → k < length text → IsAsciiDigit (get_or text k 0) = λ k lo hi. (omega (arith, zeros.each k lo hi), omega (arith, zeros.each k lo hi)) in
    let all = digits_joined text (q + 1) kept (length text) digits zero_digit in
    record {
      good = good_around_point text q (length text) point all;
      some_digit = ⊎_elim (λ lt. (0, omega arith, point.before 0 lt))
          (λ le. ⊎_elim (λ more. (q + 1, more, all.each (q + 1) (omega arith) more))
          (λ less. let one : length text ≡ 1 = omega arith in let z : q ≡ 0 = omega arith in absurd (some one (ap (λ k. get_or text k 0) (sym z) ∙ point.point)))
          (cases_lt (q + 1) (length text)))
          (cases_lt 0 q);
      value_is = value_from_front (digit_number text) (digit_number (take kept text)) (kept - q - 1) (places - (kept - q - 1)) rest places (fraction_length text) n (omega (arith, fraction_length_is text, point_place_is text q point)) (omega arith);
    }

pub scaled_reading : (text : List ℕ) (places n number zeros : ℕ) (r : Result ℕ DecimalFault) → number ≡ min n (10 ^ 18) → IsDecimal text places (n * 10 ^ zeros)
    → MatchResult r (λ value. (value ≡ number * 10 ^ zeros) × (value < 10 ^ 18)) (λ fault. (fault ≡ TooGreat) × (10 ^ 18 ≤ number * 10 ^ zeros)) → IsReading text places r
scaled_reading text places n number zeros (Ok value) e h m =
    let pos = ten_pos zeros in
    let up : number * 1 ≤ number * 10 ^ zeros = omega (arith, mul-le-mul_right number pos) in
    let same : number ≡ n = omega (arith, up, m.0, m.1) in
    rw (m.0, same) (h, omega (arith, m.0, m.1, ap (λ x. x * 10 ^ zeros) same))
scaled_reading text places n number zeros (Err fault) e h m =
    let le : number ≤ n = omega arith in
    rw m.0 (n * 10 ^ zeros, h, omega (arith, m.1, mul-le-mul_right (10 ^ zeros) le))
