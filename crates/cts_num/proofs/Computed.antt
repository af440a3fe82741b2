-- The reading of a text as a function.
use Rattle.std.proofs.Common.{◌≡◌, ◌≢◌, ◌⊎◌, ℕ, suc, ◌+◌, ◌-◌, ◌*◌, ◌/◌, ◌^◌, ◌<◌, ◌≤◌, min, Bool, true, false, cond, eqb, ltb, List, [], ◌∷◌, length, get_or, drop, refl, sym, ap, ◌∙◌, subst, inl, inr, ⊎_elim, arith, get_or-drop, length-drop}
use Rattle.std.proofs.lemmas.Bool.{cases_lt, ne_eqb, eq-eqb}
use Rattle.std.proofs.lemmas.Nat.{div-mul-add}
use Rattle.std.proofs.lemmas.Bool.Decides.{leb_tells, eqb_tells}
use Rattle.std.proofs.lemmas.List.Sums.{prefix_len-le-length, prefix_len_passes, prefix_len_stops}
use Rattle.std.specs.Char.{is_ascii_digit}
use Rattle.std.specs.List.{prefix_len}
use Rattle.cts_num.specs.Number.{digit_number}
use Rattle.cts_num.specs.Reading.{point_place, fraction_length, IsDecimal, IsEmptyDecimal, IsFirstBadByte, IsFirstTooFine, IsReading, bad_place, fine_place, is_empty_decimal, below_limit, reading_of}
use Rattle.cts_num.proofs.Texts.{ten_pos}
use Rattle.cts_num.proofs.Fronts.{AllDigitsIn, AllZerosIn, HasPoint, passes_digit, fails_digit, point_place_is, point_place_none, byte_at_point}
use Rattle.cts_num.proofs.Steps.{bad_before_point, bad_after_point, good_around_point, whole_value, point_value}

-- how far a test passes from j on
pub record Passing (p : ℕ → Bool) (text : List ℕ) (j n : ℕ) : Type 0 where
  pub passes : (k : ℕ) → j ≤ k → k < j + n → p (get_or text k 0) ≡ true
  pub stops : j + n < length text → p (get_or text (j + n) 0) ≡ false

pub passing_from : (p : ℕ → Bool) (text : List ℕ) (j : ℕ) → Passing p text j (prefix_len p (drop j text))
passing_from p text j =
    let n = prefix_len p (drop j text) in
    record {
      passes = λ k lo hi.
          let e : j + (k - j) ≡ k = omega arith in
          subst (λ i. p (get_or text i 0) ≡ true) e (ap p (sym (get_or-drop j text (k - j) 0)) ∙ prefix_len_passes p (drop j text) (k - j) 0 (omega arith));
      stops = λ lt. ap p (sym (get_or-drop j text n 0)) ∙ prefix_len_stops p (drop j text) 0 (omega (arith, length-drop j text));
    }

digits_from : (text : List ℕ) (j n : ℕ) → Passing is_ascii_digit text j n → AllDigitsIn text j (j + n)
digits_from text j n h = record { each = λ k lo hi. passes_digit (get_or text k 0) (h.passes k lo hi) }

-- each test with what it tells

empty_tells : (text : List ℕ) → ((is_empty_decimal text ≡ true) × IsEmptyDecimal text) ⊎ ((is_empty_decimal text ≡ false) × (0 < length text) × (length text ≡ 1 → get_or text 0 0 ≢ 46))
empty_tells [] = inl (refl, inl refl)
empty_tells (b ∷ []) = elim (eqb_tells b 46) [ inl p ↦ inl (p.0, inr (ap (λ x. x ∷ []) p.1)) | inr p ↦ inr (p.0, omega arith, λ _. p.1) ]
empty_tells (b ∷ c ∷ rest) = inr (refl, omega arith, λ one. absurd (omega arith))

-- every byte is a digit or the first point
Clean : List ℕ → Type 0
Clean text = AllDigitsIn text 0 (length text) ⊎ ((q : ℕ) × HasPoint text q × AllDigitsIn text (q + 1) (length text))

bad_in_front : (text : List ℕ) → prefix_len is_ascii_digit text ≢ point_place text → bad_place text ≡ prefix_len is_ascii_digit text
unfolding bad_place
bad_in_front text ne =
    let front = prefix_len is_ascii_digit text in
    ap (λ b. cond b (front + 1 + prefix_len is_ascii_digit (drop (front + 1) text)) front) (ne_eqb front (point_place text) ne)

bad_behind : (text : List ℕ) (q : ℕ) → prefix_len is_ascii_digit text ≡ q → q ≡ point_place text → bad_place text ≡ q + 1 + prefix_len is_ascii_digit (drop (q + 1) text)
unfolding bad_place
bad_behind text q e f =
    let front = prefix_len is_ascii_digit text in
    ap (λ b. cond b (front + 1 + prefix_len is_ascii_digit (drop (front + 1) text)) front) (eq-eqb front (point_place text) (e ∙ f))
    ∙ ap (λ n. n + 1 + prefix_len is_ascii_digit (drop (n + 1) text)) e

front_digits : (text : List ℕ) → AllDigitsIn text 0 (prefix_len is_ascii_digit text)
front_digits text = record { each = λ k lo hi. passes_digit (get_or text k 0) (prefix_len_passes is_ascii_digit text k 0 hi) }

BadTold : List ℕ → ℕ → Type 0
BadTold text bad = ((ltb bad (length text) ≡ true) × IsFirstBadByte text bad) ⊎ ((ltb bad (length text) ≡ false) × Clean text)

-- the digits at the front end at the first point
bad_told_behind : (text : List ℕ) (q : ℕ) → q < length text → prefix_len is_ascii_digit text ≡ q → q ≡ point_place text → BadTold text (bad_place text)
unfolding Clean BadTold
bad_told_behind text q inside e f =
    let n = prefix_len is_ascii_digit (drop (q + 1) text) in
    let h = passing_from is_ascii_digit text (q + 1) in
    let bad = q + 1 + n in
    let digits = digits_from text (q + 1) n h in
    let point : HasPoint text q = record {
      inside = inside;
      point = rw f (byte_at_point text (rw f at inside));
      before = λ k lt. (front_digits text).each k (omega arith) (omega arith);
    } in
    rw (bad_behind text q e f) (elim (leb_tells (suc bad) (length text)) [
      | inl p ↦ inl (p.0, bad_after_point text q bad point (omega arith) p.1 digits (fails_digit (get_or text bad 0) (h.stops p.1)))
      | inr p ↦ inr (p.0, inr (q, point, record { each = λ k lo hi. digits.each k lo (omega (arith, p.1)) }))
    ])

-- the digits at the front are the whole text
bad_told_none : (text : List ℕ) → prefix_len is_ascii_digit text ≡ length text → length text ≡ point_place text → BadTold text (bad_place text)
unfolding Clean BadTold
bad_told_none text e f =
    let n = prefix_len is_ascii_digit (drop (length text + 1) text) in
    rw (bad_behind text (length text) e f) (elim (leb_tells (suc (length text + 1 + n)) (length text)) [
      | inl p ↦ absurd (omega (arith, p.1))
      | inr p ↦ inr (p.0, inl (rw e at (front_digits text)))
    ])

-- the digits at the front end elsewhere
bad_told_front : (text : List ℕ) → prefix_len is_ascii_digit text ≢ point_place text → BadTold text (bad_place text)
unfolding BadTold
bad_told_front text ne =
    let d = prefix_len is_ascii_digit text in
    let digits = front_digits text in
    rw (bad_in_front text ne) (elim (leb_tells (suc d) (length text)) [
      | inl p ↦ inl (
        p.0,
        bad_before_point text d p.1 digits (fails_digit (get_or text d 0) (prefix_len_stops is_ascii_digit text 0 p.1))
            (λ e. ne (sym (point_place_is text d (record { inside = p.1; point = e; before = λ k lt. digits.each k (omega arith) lt })))),
      )
      | inr p ↦
          let e : d ≡ length text = omega (arith, p.1, prefix_len-le-length is_ascii_digit text) in
          absurd (ne (e ∙ sym (point_place_none text (rw e at digits))))
    ])

bad_tells : (text : List ℕ) → BadTold text (bad_place text)
bad_tells text =
    let d = prefix_len is_ascii_digit text in
    elim (eqb_tells d (point_place text)) [
      | inl p ↦ ⊎_elim (λ lt. bad_told_behind text d lt refl p.1)
          (λ le. let e : d ≡ length text = omega (arith, le, prefix_len-le-length is_ascii_digit text) in bad_told_none text e (sym e ∙ p.1))
          (cases_lt d (length text))
      | inr p ↦ bad_told_front text p.1
    ]

FineTold : List ℕ → ℕ → ℕ → Type 0
FineTold text places fine = ((ltb fine (length text) ≡ true) × IsFirstTooFine text places fine) ⊎ ((ltb fine (length text) ≡ false) × AllZerosIn text (point_place text + 1 + places) (length text))

zero_byte : (b : ℕ) → eqb b 48 ≡ true → b ≡ 48
zero_byte b e = elim (eqb_tells b 48) [ inl p ↦ p.1 | inr p ↦ cc ]

other_byte : (b : ℕ) → eqb b 48 ≡ false → b ≢ 48
other_byte b e = elim (eqb_tells b 48) [ inl p ↦ cc | inr p ↦ p.1 ]

fine_tells : (text : List ℕ) (places : ℕ) → Clean text → FineTold text places (fine_place text places)
unfolding Clean FineTold fine_place
fine_tells text places clean =
    let kept = point_place text + 1 + places in
    let h = passing_from (λ b. eqb b 48) text kept in
    let fine = kept + prefix_len (λ b. eqb b 48) (drop kept text) in
    elim (leb_tells (suc fine) (length text)) [
      | inl p ↦
          let lt = p.1 in
          ⊎_elim (λ all. absurd (omega (arith, point_place_none text all)))
          (λ w. inl (
            p.0,
            record {
              good = good_around_point text w.0 (length text) w.1 w.2;
              inside = lt;
              past = omega arith;
              fine = other_byte (get_or text fine 0) (h.stops lt);
              first = λ k after before. zero_byte (get_or text k 0) (h.passes k (omega arith) before);
            },
          ))
          clean
      | inr p ↦ inr (p.0, record { each = λ k lo hi. zero_byte (get_or text k 0) (h.passes k lo (omega (arith, p.1))) })
    ]

-- the value

quotient : (text : List ℕ) (places v : ℕ) → IsDecimal text places v → digit_number text * 10 ^ places / 10 ^ fraction_length text ≡ v
quotient text places v h =
    let unit = 10 ^ fraction_length text in
    let e : digit_number text * 10 ^ places ≡ v * unit + 0 = omega (arith, h.value_is) in
    ap (λ n. n / unit) e ∙ div-mul-add v unit 0 (ten_pos (fraction_length text))

some_value : (text : List ℕ) (places : ℕ) → 0 < length text → (length text ≡ 1 → get_or text 0 0 ≢ 46) → Clean text → AllZerosIn text (point_place text + 1 + places) (length text) → (v : ℕ) × IsDecimal text places v
unfolding Clean
some_value text places some other clean zeros =
    ⊎_elim (λ all. (_, whole_value text places some all))
    (λ w.
    let q = w.0 in
    let inside = w.1.inside in
    let place = point_place_is text q w.1 in
    let kept = min (length text) (q + 1 + places) in
    (_, point_value text q kept places w.1 (omega arith) refl other (record { each = λ k lo hi. w.2.each k lo (omega arith) }) (record { each = λ k lo hi. zeros.each k (omega arith) hi })))
    clean

limited : (text : List ℕ) (places v : ℕ) → IsDecimal text places v → IsReading text places (below_limit v)
limited text places v h =
    elim (leb_tells (suc v) (10 ^ 18)) [
      | inl p ↦ rw p.0 (h, p.1)
      | inr p ↦ rw p.0 (v, h, omega (arith, p.1))
    ]

pub reading_of_is : (text : List ℕ) (places : ℕ) → IsReading text places (reading_of text places)
unfolding reading_of BadTold FineTold
reading_of_is text places =
    elim (empty_tells text) [
      | inl e ↦ rw e.0 e.1
      | inr e ↦ rw e.0 (elim (bad_tells text) [
        | inl b ↦ rw b.0 b.1
        | inr b ↦ rw b.0 (elim (fine_tells text places b.1) [
          | inl f ↦ rw f.0 f.1
          | inr f ↦
              let w = some_value text places e.1 e.2 b.1 f.1 in
              rw (f.0, quotient text places w.0 w.1) (limited text places w.0 w.1)
        ])
      ])
    ]
