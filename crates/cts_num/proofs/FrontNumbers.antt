-- The number in front of a text: how many bytes it takes, and its reading.
use Rattle.std.proofs.Common.{◌≡◌, ◌≢◌, ℕ, ◌+◌, ◌-◌, ◌*◌, ◌^◌, ◌<◌, ◌≤◌, min, Bool, true, false, cond, ◌&&◌, eqb, ltb, List, length, get_or, take, drop, refl, sym, ap, ◌∙◌, inl, inr, ⊎_elim, arith, length-drop, Result, Err, MatchResult}
use Rattle.std.proofs.lemmas.Bool.{cases_lt, ne_eqb, eq-eqb}
use Rattle.std.proofs.lemmas.Bool.Decides.{leb_tells}
use Rattle.std.proofs.lemmas.List.{get_or-take, get_or_past, length-take-le}
use Rattle.std.proofs.lemmas.List.Sums.{prefix_len-le-length, prefix_len_is}
use Rattle.std.specs.Char.{IsAsciiDigit, is_ascii_digit}
use Rattle.std.specs.List.{prefix_len}
use Rattle.cts_num.specs.Number.{digit_number}
use Rattle.cts_num.specs.Reading.{IsDecimal, front_size, reading_of}
use Rattle.cts_num.specs.declared.read.DecimalFault.{DecimalFault}
use Rattle.cts_num.specs.declared.read.DecimalFault.TheVariants.{Empty, TooGreat}
use Rattle.cts_num.proofs.Computed.{passing_from, reading_of_is}
use Rattle.cts_num.proofs.Fronts.{AllDigitsIn, HasPoint, digit_passes, digit_fails, passes_digit, fails_digit, digit_number-all}
use Rattle.cts_num.proofs.Readings.{reading_is_unique}
use Rattle.cts_num.proofs.Steps.{whole_value, point_value, scaled_reading}

-- how many digits stand in front
pub digits_in_front : (text : List ℕ) (n : ℕ) → n ≤ length text → AllDigitsIn text 0 n → (n < length text → ¬ IsAsciiDigit (get_or text n 0))
    → prefix_len is_ascii_digit text ≡ n
digits_in_front text n le digits stop =
    prefix_len_is is_ascii_digit text n 0 le (λ k lt. digit_passes (get_or text k 0) (digits.each k (omega arith) lt))
    (λ lt. digit_fails (get_or text n 0) (stop lt))

size_by : (places : ℕ) (text : List ℕ) (whole : ℕ) (pointed : Bool) → prefix_len is_ascii_digit text ≡ whole
    → (ltb 0 whole && eqb (get_or text whole 0) 46) ≡ pointed
    → front_size places text ≡ cond pointed (whole + 1 + min places (prefix_len is_ascii_digit (drop (whole + 1) text))) whole
unfolding front_size
size_by places text whole pointed e p = rw (e, p) refl

and_no : (b : Bool) → (b && false) ≡ false
and_no true = refl
and_no false = refl

-- no digit
pub size_none : (places : ℕ) (text : List ℕ) → prefix_len is_ascii_digit text ≡ 0 → 0 ≡ front_size places text
size_none places text e = sym (size_by places text 0 false e refl)

-- digits that no point follows
pub size_whole : (places : ℕ) (text : List ℕ) (n : ℕ) → prefix_len is_ascii_digit text ≡ n → get_or text n 0 ≢ 46 → n ≡ front_size places text
size_whole places text n e other =
    let none : (ltb 0 n && eqb (get_or text n 0) 46) ≡ false = rw (ne_eqb (get_or text n 0) 46 other) (and_no (ltb 0 n)) in
    sym (size_by places text n false e none)

-- past the end stands no point
pub no_point_past : (text : List ℕ) (n : ℕ) → n ≡ length text → get_or text n 0 ≢ 46
no_point_past text n e point = omega (arith, get_or_past text n 0 (omega arith), point)

-- digits, a point, and the digits after it
pub size_pointed : (places : ℕ) (text : List ℕ) (q kept : ℕ) → prefix_len is_ascii_digit text ≡ q → 0 < q → q < length text → get_or text q 0 ≡ 46
    → q + 1 ≤ kept → kept ≤ min (length text) (q + 1 + places) → AllDigitsIn text (q + 1) kept
    → (kept < min (length text) (q + 1 + places) → ¬ IsAsciiDigit (get_or text kept 0)) → kept ≡ front_size places text
size_pointed places text q kept e some inside point lo hi digits stop =
    let n = prefix_len is_ascii_digit (drop (q + 1) text) in
    let h = passing_from is_ascii_digit text (q + 1) in
    let long : n ≤ length text - (q + 1) = omega (arith, prefix_len-le-length is_ascii_digit (drop (q + 1) text), length-drop (q + 1) text) in
    let least : kept ≤ q + 1 + n =
    ⊎_elim (λ lt. absurd (fails_digit (get_or text (q + 1 + n) 0) (h.stops (omega arith)) (digits.each (q + 1 + n) (omega arith) lt))) (λ le. le)
    (cases_lt (q + 1 + n) kept) in
    let most : q + 1 + min places n ≤ kept =
    ⊎_elim (λ less. ⊎_elim (λ over. absurd (stop less (passes_digit (get_or text kept 0) (h.passes kept lo over)))) (λ le. omega arith) (cases_lt kept (q + 1 + n)))
    (λ le. omega arith)
    (cases_lt kept (min (length text) (q + 1 + places))) in
    let pointed : (ltb 0 q && eqb (get_or text q 0) 46) ≡ true =
    elim (leb_tells 1 q) [ inl p ↦ rw (p.0, eq-eqb (get_or text q 0) 46 point) refl | inr p ↦ absurd (omega (arith, p.1)) ] in
    omega (arith, size_by places text q true e pointed)

-- one number has one reading
the_reading : (text : List ℕ) (places n number zeros : ℕ) (r : Result ℕ DecimalFault) → number ≡ min n (10 ^ 18)
    → IsDecimal text places (n * 10 ^ zeros)
    → MatchResult r (λ value. (value ≡ number * 10 ^ zeros) × (value < 10 ^ 18)) (λ fault. (fault ≡ TooGreat) × (10 ^ 18 ≤ number * 10 ^ zeros))
    → r ≡ reading_of text places
the_reading text places n number zeros r e h m =
    reading_is_unique text places r (reading_of text places) (scaled_reading text places n number zeros r e h m) (reading_of_is text places)

digits_taken : (text : List ℕ) (n i j : ℕ) → j ≤ n → AllDigitsIn text i j → AllDigitsIn (take n text) i j
digits_taken text n i j le digits = record {
  each = λ k lo hi. let same : get_or (take n text) k 0 ≡ get_or text k 0 = get_or-take n text k 0 (omega arith) in rw same (digits.each k lo hi);
}

-- the reading of digits
pub reads_whole : (text : List ℕ) (places n number : ℕ) (r : Result ℕ DecimalFault) → 0 < n → n ≤ length text → AllDigitsIn text 0 n
    → number ≡ min (digit_number (take n text)) (10 ^ 18)
    → MatchResult r (λ value. (value ≡ number * 10 ^ places) × (value < 10 ^ 18)) (λ fault. (fault ≡ TooGreat) × (10 ^ 18 ≤ number * 10 ^ places))
    → r ≡ reading_of (take n text) places
reads_whole text places n number r some within digits e m =
    let front = take n text in
    let long : length front ≡ n = length-take-le n text within in
    let all : AllDigitsIn front 0 (length front) = rw long (digits_taken text n 0 n (omega arith) digits) in
    the_reading front places (digit_number front) number places r e (whole_value front places (omega (arith, long)) all) m

-- the reading of digits around a point
pub reads_pointed : (text : List ℕ) (places q kept number : ℕ) (r : Result ℕ DecimalFault) → 0 < q → q + 1 ≤ kept → kept ≤ length text → kept ≤ q + 1 + places
    → AllDigitsIn text 0 q → get_or text q 0 ≡ 46 → AllDigitsIn text (q + 1) kept → number ≡ min (digit_number (take kept text)) (10 ^ 18)
    → MatchResult r (λ value. (value ≡ number * 10 ^ (places - (kept - q - 1))) × (value < 10 ^ 18))
    (λ fault. (fault ≡ TooGreat) × (10 ^ 18 ≤ number * 10 ^ (places - (kept - q - 1))))
    → r ≡ reading_of (take kept text) places
reads_pointed text places q kept number r some past within most front_digits point digits e m =
    let front = take kept text in
    let long : length front ≡ kept = length-take-le kept text within in
    let before = digits_taken text kept 0 q (omega arith) front_digits in
    let has : HasPoint front q = record {
      inside = omega (arith, long);
      point = get_or-take kept text q 0 (omega arith) ∙ point;
      before = λ k lt. before.each k (omega arith) lt;
    } in
    let value = point_value front q kept places has (omega arith) (omega (arith, long)) (λ one. absurd (omega (arith, one, long)))
    (digits_taken text kept (q + 1) kept (omega arith) digits) (record { each = λ k lo hi. absurd (omega (arith, lo, hi, long)) }) in
    let same : digit_number (take kept front) ≡ digit_number front = digit_number-all front kept (omega (arith, long)) in
    the_reading front places (digit_number (take kept front)) number (places - (kept - q - 1)) r (e ∙ ap (λ n. min n (10 ^ 18)) (sym same)) value m

-- no byte, no number
pub reads_none : (text : List ℕ) (places : ℕ) → Err Empty ≡ reading_of (take 0 text) places
unfolding reading_of
reads_none text places = refl
