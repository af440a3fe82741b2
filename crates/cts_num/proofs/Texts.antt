-- The texts of numbers, taken apart by their last digits.
use Rattle.std.proofs.Common.{◌≡◌, ℕ, zero, suc, ◌+◌, ◌-◌, ◌*◌, ◌/◌, ◌%◌, ◌^◌, ◌<◌, ◌≤◌, cond, [], ◌∷◌, ◌++◌, length, map, replicate, refl, sym, ap, ◌∙◌, inl, inr, arith, append_assoc, append-nil, length-append, pow-suc, eq-zero-or-pos, div-one, div-add-mod', mod-lt, mul-pos, mul_assoc, mod-eq_of_lt}
use Rattle.std.proofs.lemmas.Bool.{ne_eqb}
use Rattle.std.proofs.Math.Nat.{one-le-pow, pow-zero, mod-one, div-div-eq-div-mul}
use Rattle.std.proofs.lemmas.Int.Digits.{digits_of_step, length-digits_of-le}
use Rattle.std.proofs.lemmas.List.{map_push, replicate_more, length-map, length-replicate}
use Rattle.std.proofs.lemmas.Nat.{div-mul-add, mod-mul-add, div_below, pow-add, le-div}
use Rattle.std.specs.Int.Digits.{digits_of}
use Rattle.cts_num.specs.Decimal.{glyph, digits_text, whole_text, padded_text, pair_text, fraction_text, decimal_text}

pub digits_text_step : (n : ℕ) → 0 < n → digits_text n ≡ digits_text (n / 10) ++ glyph (n % 10) ∷ []
unfolding digits_text
digits_text_step n h = ap (map glyph) (digits_of_step 10 n (omega arith) h) ∙ map_push glyph (digits_of 10 (n / 10)) (n % 10)

pub digits_text_zero : digits_text 0 ≡ []
unfolding digits_text
digits_text_zero = refl

digits_text_one : (n : ℕ) → 0 < n → n < 10 → digits_text n ≡ glyph n ∷ []
digits_text_one n h small =
    let q : n / 10 ≡ 0 = omega arith in
    let r : n % 10 ≡ n = omega arith in
    rw (digits_text_step n h, q, r, digits_text_zero)

length-digits_text_step : (n : ℕ) → 0 < n → length (digits_text n) ≡ length (digits_text (n / 10)) + 1
length-digits_text_step n h = ap length (digits_text_step n h) ∙ length-append (digits_text (n / 10)) (glyph (n % 10) ∷ [])

length-digits_text-le : (k n : ℕ) → n < 10 ^ k → length (digits_text n) ≤ k
unfolding digits_text
length-digits_text-le k n h = omega (arith, length-map (digits_of 10 n) glyph, length-digits_of-le 10 k n (omega arith) h)

-- whole texts

pub whole_text-digits : (n : ℕ) → 0 < n → whole_text n ≡ digits_text n
unfolding whole_text
whole_text-digits n h = ap (λ b. cond b (48 ∷ []) (digits_text n)) (ne_eqb n 0 (λ e. omega arith))

pub whole_text_one : (n : ℕ) → n < 10 → whole_text n ≡ glyph n ∷ []
unfolding whole_text
whole_text_one zero h = refl
whole_text_one (suc m) h = whole_text-digits (suc m) (omega arith) ∙ digits_text_one (suc m) (omega arith) h

pub whole_text_step : (n : ℕ) → 10 ≤ n → whole_text n ≡ whole_text (n / 10) ++ glyph (n % 10) ∷ []
whole_text_step n h = rw (whole_text-digits n (omega arith), whole_text-digits (n / 10) (omega arith)) (digits_text_step n (omega arith))

pub whole_text_two : (n : ℕ) → 10 ≤ n → n < 100 → whole_text n ≡ pair_text n
whole_text_two n lo hi = rw (whole_text_step n lo, whole_text_one (n / 10) (omega arith))

pub whole_text_pair : (n : ℕ) → 100 ≤ n → whole_text n ≡ whole_text (n / 100) ++ pair_text (n % 100)
whole_text_pair n h =
    let a : n / 10 / 10 ≡ n / 100 = omega arith in
    let b : n / 10 % 10 ≡ n % 100 / 10 = omega arith in
    let c : n % 10 ≡ n % 100 % 10 = omega arith in
    rw (whole_text_step n (omega arith), whole_text_step (n / 10) (omega arith), append_assoc, a, b, ← c)

pub length-whole_text-le : (k n : ℕ) → n < 10 ^ suc k → length (whole_text n) ≤ suc k
length-whole_text-le k n h =
    elim (eq-zero-or-pos n) [
      | inl z ↦ omega (arith, ap length (whole_text_one n (omega arith)))
      | inr p ↦ omega (arith, ap length (whole_text-digits n p), length-digits_text-le (suc k) n h)
    ]

-- padded texts

padded_text_zeros : (w : ℕ) → padded_text w 0 ≡ replicate w 48
unfolding padded_text digits_text
padded_text_zeros w = let e : w - 0 ≡ w = omega arith in rw e (append-nil _)

pub padded_text-zero : (n : ℕ) → n < 1 → padded_text 0 n ≡ []
padded_text-zero zero h = padded_text_zeros 0
padded_text-zero (suc m) h = absurd (omega arith)

padded_text_step_some : (w n : ℕ) → 0 < n → padded_text (w + 1) n ≡ padded_text w (n / 10) ++ glyph (n % 10) ∷ []
unfolding padded_text
padded_text_step_some w n p =
    let e : w + 1 - length (digits_text n) ≡ w - length (digits_text (n / 10)) = omega (arith, length-digits_text_step n p) in
    rw (e, digits_text_step n p) (sym (append_assoc (replicate (w - length (digits_text (n / 10))) 48) (digits_text (n / 10)) (glyph (n % 10) ∷ [])))

padded_text_step_none : (w : ℕ) → padded_text (w + 1) 0 ≡ padded_text w 0 ++ 48 ∷ []
padded_text_step_none w =
    padded_text_zeros (w + 1) ∙ sym (ap (λ t. t ++ 48 ∷ []) (padded_text_zeros w) ∙ replicate_more w 48)

pub padded_text_step : (w n : ℕ) → padded_text (w + 1) n ≡ padded_text w (n / 10) ++ glyph (n % 10) ∷ []
padded_text_step w n =
    elim (eq-zero-or-pos n) [
      | inl z ↦ rw z (padded_text_step_none w)
      | inr p ↦ padded_text_step_some w n p
    ]

pub padded_text_pair : (w n : ℕ) → padded_text (w + 2) n ≡ padded_text w (n / 100) ++ pair_text (n % 100)
padded_text_pair w n =
    let s : w + 2 ≡ w + 1 + 1 = omega arith in
    let a : n / 10 / 10 ≡ n / 100 = omega arith in
    let b : n / 10 % 10 ≡ n % 100 / 10 = omega arith in
    let c : n % 10 ≡ n % 100 % 10 = omega arith in
    rw (s, padded_text_step (w + 1) n, padded_text_step w (n / 10), append_assoc, a, b, ← c)

pub padded_text_one : (n : ℕ) → n < 10 → padded_text 1 n ≡ glyph n ∷ []
padded_text_one n h =
    let q : n / 10 ≡ 0 = omega arith in
    let r : n % 10 ≡ n = omega arith in
    padded_text_step 0 n ∙ rw (q, r, padded_text-zero 0 (omega arith))

pub length-padded_text : (w n : ℕ) → n < 10 ^ w → length (padded_text w n) ≡ w
unfolding padded_text
length-padded_text w n h =
    let le = length-digits_text-le w n h in
    omega (arith, length-append (replicate (w - length (digits_text n)) 48) (digits_text n), length-replicate {A = ℕ} (w - length (digits_text n)) 48)

-- a long text is the text of its front and a padded rest

-- n by its last digit and the next k digits
record Split (k n : ℕ) : Type 0 where
  front : n / 10 ^ suc k ≡ n / 10 / 10 ^ k
  middle : n % 10 ^ suc k / 10 ≡ n / 10 % 10 ^ k
  last : n % 10 ^ suc k % 10 ≡ n % 10

split_numbers : (p a b d n : ℕ) → b < p → d < 10 → n ≡ (a * p + b) * 10 + d → (n / (p * 10) ≡ a) × (n % (p * 10) ≡ b * 10 + d)
split_numbers p a b d n lt small e =
    let whole : n ≡ a * (p * 10) + (b * 10 + d) = omega arith in
    rw whole (div-mul-add a (p * 10) (b * 10 + d) (omega arith), mod-mul-add a (p * 10) (b * 10 + d) (omega arith))

pub ten_pos : (k : ℕ) → 0 < 10 ^ k
ten_pos k = omega (arith, one-le-pow k 10 (omega arith))

split_at : (k n : ℕ) → Split k n
split_at k n =
    let p = 10 ^ k in
    let pos = ten_pos k in
    let lt = mod-lt (n / 10) pos in
    let s = split_numbers p (n / 10 / p) (n / 10 % p) (n % 10) n lt (omega arith) (omega (arith, div-add-mod' (n / 10) p)) in
    let e = pow-suc 10 k in
    record {
      front = rw e s.0;
      middle = rw (e, s.1) (omega arith);
      last = rw (e, s.1) (omega arith);
    }

pub whole_text_split : (k n : ℕ) → 10 ^ k ≤ n → whole_text n ≡ whole_text (n / 10 ^ k) ++ padded_text k (n % 10 ^ k)
whole_text_split zero n h = rw (pow-zero 10, div-one n, mod-one n, padded_text-zero 0 (omega arith), append-nil (whole_text n))
whole_text_split (suc k) n h =
    let s = split_at k n in
    let pos = ten_pos k in
    let e = pow-suc 10 k in
    let more : 10 ^ k ≤ n / 10 = omega arith in
    let w : suc k ≡ k + 1 = omega arith in
    let step : padded_text (suc k) (n % 10 ^ suc k) ≡ padded_text k (n / 10 % 10 ^ k) ++ glyph (n % 10) ∷ [] =
    ap (λ j. padded_text j (n % 10 ^ suc k)) w ∙ padded_text_step k (n % 10 ^ suc k) ∙ rw (s.middle, s.last) refl in
    whole_text_step n (omega arith) ∙ ap (λ t. t ++ glyph (n % 10) ∷ []) (whole_text_split k (n / 10) more)
    ∙ append_assoc (whole_text (n / 10 / 10 ^ k)) (padded_text k (n / 10 % 10 ^ k)) (glyph (n % 10) ∷ []) ∙ rw (s.front, step) refl

pub length-whole_text_pair : (n : ℕ) → 100 ≤ n → length (whole_text n) ≡ length (whole_text (n / 100)) + 2
length-whole_text_pair n h = ap length (whole_text_pair n h) ∙ length-append (whole_text (n / 100)) (pair_text (n % 100))

pub length-whole_text_split : (k n : ℕ) → 10 ^ k ≤ n → length (whole_text n) ≡ length (whole_text (n / 10 ^ k)) + k
length-whole_text_split k n h =
    let long = length-padded_text k (n % 10 ^ k) (mod-lt n (ten_pos k)) in
    ap length (whole_text_split k n h) ∙ length-append (whole_text (n / 10 ^ k)) (padded_text k (n % 10 ^ k)) ∙ ap (λ j. length (whole_text (n / 10 ^ k)) + j) long

-- bounds

pub hundredth-lt : (w n : ℕ) → n < 10 ^ (w + 2) → n / 100 < 10 ^ w
hundredth-lt w n h =
    let s : w + 2 ≡ suc (suc w) = omega arith in
    let e : 10 ^ (w + 2) ≡ 10 ^ w * 10 * 10 = ap (λ j. 10 ^ j) s ∙ pow-suc 10 (suc w) ∙ ap (λ p. p * 10) (pow-suc 10 w) in
    omega arith

pub whole_part-lt : (k p n : ℕ) → p ≤ k → n < 10 ^ k → n / 10 ^ p < 10 ^ (k - p)
whole_part-lt k p n le h =
    let s : k - p + p ≡ k = omega arith in
    let e : 10 ^ (k - p) * 10 ^ p ≡ 10 ^ k = sym (pow-add 10 (k - p) p) ∙ ap (λ j. 10 ^ j) s in
    div_below n (10 ^ p) (10 ^ (k - p)) (ten_pos p) (rw e h)

-- the whole text of a decimal

pub fraction_text-zero : (v : ℕ) → fraction_text 0 v ≡ []
unfolding fraction_text
fraction_text-zero v = refl

pub fraction_text-some : (p v : ℕ) → 0 < p → fraction_text p v ≡ 46 ∷ padded_text p (v % 10 ^ p)
unfolding fraction_text
fraction_text-some p v h = ap (λ b. cond b [] (46 ∷ padded_text p (v % 10 ^ p))) (ne_eqb p 0 (λ e. omega arith))

pub length-fraction_text-some : (p v : ℕ) → 0 < p → length (fraction_text p v) ≡ p + 1
length-fraction_text-some p v h = ap length (fraction_text-some p v h) ∙ omega (arith, length-padded_text p (v % 10 ^ p) (mod-lt v (ten_pos p)))

pub length-fraction_text-le : (p v : ℕ) → length (fraction_text p v) ≤ p + 1
length-fraction_text-le p v =
    elim (eq-zero-or-pos p) [
      | inl z ↦ omega (arith, ap (λ j. length (fraction_text j v)) z, ap length (fraction_text-zero v))
      | inr pos ↦ omega (arith, length-fraction_text-some p v pos)
    ]

pub decimal_text-parts : (p v : ℕ) → decimal_text p v ≡ whole_text (v / 10 ^ p) ++ fraction_text p v
unfolding decimal_text
decimal_text-parts p v = refl

pub decimal_text-zero : (v : ℕ) → decimal_text 0 v ≡ whole_text v
decimal_text-zero v = decimal_text-parts 0 v ∙ rw (fraction_text-zero v, append-nil (whole_text (v / 1)), div-one v) refl

pub decimal_text-some : (p v : ℕ) → 0 < p → decimal_text p v ≡ whole_text (v / 10 ^ p) ++ (46 ∷ padded_text p (v % 10 ^ p))
decimal_text-some p v h = decimal_text-parts p v ∙ ap (λ t. whole_text (v / 10 ^ p) ++ t) (fraction_text-some p v h)

-- both parts fit 39 bytes
pub parts_fit : (p v : ℕ) → p ≤ 16 → v < 10 ^ 38 → length (whole_text (v / 10 ^ p)) + length (fraction_text p v) ≤ 39
parts_fit p v le lt =
    let bound = whole_part-lt 38 p v (omega arith) lt in
    let e : 38 - p ≡ suc (37 - p) = omega arith in
    let long = length-whole_text-le (37 - p) (v / 10 ^ p) (rw e at bound) in
    elim (eq-zero-or-pos p) [
      | inl z ↦ omega (arith, ap (λ j. length (fraction_text j v)) z, ap length (fraction_text-zero v))
      | inr pos ↦ omega (arith, length-fraction_text-some p v pos)
    ]

-- the last digits

pub low_text-zero : (n : ℕ) → padded_text 0 (n % 10 ^ 0) ≡ []
low_text-zero n = ap (padded_text 0) (mod-one n) ∙ padded_text-zero 0 (omega arith)

pub low_text_step : (w n : ℕ) → padded_text (w + 1) (n % 10 ^ (w + 1)) ≡ padded_text w (n / 10 % 10 ^ w) ++ glyph (n % 10) ∷ []
low_text_step w n =
    let s : w + 1 ≡ suc w = omega arith in
    let d = split_at w n in
    padded_text_step w (n % 10 ^ (w + 1)) ∙ rw (s, d.middle, d.last) refl

pub low_text_pair : (w n : ℕ) → padded_text (w + 2) (n % 10 ^ (w + 2)) ≡ padded_text w (n / 100 % 10 ^ w) ++ pair_text (n % 100)
low_text_pair w n =
    let s : w + 2 ≡ w + 1 + 1 = omega arith in
    let a : n / 10 / 10 ≡ n / 100 = omega arith in
    let b : n / 10 % 10 ≡ n % 100 / 10 = omega arith in
    let c : n % 10 ≡ n % 100 % 10 = omega arith in
    rw (s, low_text_step (w + 1) n, low_text_step w (n / 10), append_assoc, a, b, ← c)

pub hundred_more : (n k : ℕ) → n / 10 ^ k / 100 ≡ n / 10 ^ (k + 2)
hundred_more n k = div-div-eq-div-mul n (10 ^ k) 100 ∙ ap (λ d. n / d) (sym (pow-add 10 k 2))

pub ten_more : (n k : ℕ) → n / 10 ^ k / 10 ≡ n / 10 ^ (k + 1)
ten_more n k = div-div-eq-div-mul n (10 ^ k) 10 ∙ ap (λ d. n / d) (sym (pow-add 10 k 1))

-- a value cut after c digits, at p places

pub record Cut (n q t : ℕ) : Type 0 where
  pub high : n / q / t ≡ n / (t * q)
  pub rest : n / q % t ≡ n % (t * q) / q
  pub low : n % (t * q) % q ≡ n % q

pub cut_by : (n q t : ℕ) → 0 < q → 0 < t → Cut n q t
cut_by n q t pq pt =
    let u = t * q in
    let pu : 0 < u = mul-pos pt pq in
    let h = n / u in
    let l = n % u in
    let r = l / q in
    let f = l % q in
    let small : r < t = div_below l q t pq (mod-lt n pu) in
    let e : n ≡ (h * t + r) * q + f = omega (arith, div-add-mod' n u, div-add-mod' l q, mul_assoc h t q) in
    let whole : n / q ≡ h * t + r = ap (λ x. x / q) e ∙ div-mul-add (h * t + r) q f (mod-lt l pq) in
    record {
      high = ap (λ x. x / t) whole ∙ div-mul-add h t r small;
      rest = ap (λ x. x % t) whole ∙ mod-mul-add h t r small;
      low = sym (ap (λ x. x % q) e ∙ mod-mul-add (h * t + r) q f (mod-lt l pq));
    }

pub cut_at : (c p n : ℕ) → p ≤ c → Cut n (10 ^ p) (10 ^ (c - p)) × (10 ^ (c - p) * 10 ^ p ≡ 10 ^ c)
cut_at c p n le =
    let s : c - p + p ≡ c = omega arith in
    (cut_by n (10 ^ p) (10 ^ (c - p)) (ten_pos p) (ten_pos (c - p)), sym (pow-add 10 (c - p) p) ∙ ap (λ j. 10 ^ j) s)

-- a fraction goes by the last digits alone
pub fraction_text-low : (p v w : ℕ) → w % 10 ^ p ≡ v % 10 ^ p → fraction_text p v ≡ fraction_text p w
unfolding fraction_text
fraction_text-low p v w e = rw e refl

pub decimal_text-cut : (p v : ℕ) → p ≤ 16 → 10 ^ 16 ≤ v
    → decimal_text p v ≡ whole_text (v / 10 ^ 16) ++ (padded_text (16 - p) (v % 10 ^ 16 / 10 ^ p % 10 ^ (16 - p)) ++ fraction_text p (v % 10 ^ 16))
decimal_text-cut p v le big =
    let q = 10 ^ p in
    let t = 10 ^ (16 - p) in
    let cut = cut_at 16 p v le in
    let x = v / q in
    let more : t ≤ x = le-div t v q (ten_pos p) (rw cut.1 big) in
    let high : x / t ≡ v / 10 ^ 16 = cut.0.high ∙ ap (λ u. v / u) cut.1 in
    let rest : x % t ≡ v % 10 ^ 16 / q % t = sym (mod-eq_of_lt (mod-lt x (ten_pos (16 - p)))) ∙ ap (λ y. y % t) (cut.0.rest ∙ ap (λ u. v % u / q) cut.1) in
    let low : v % 10 ^ 16 % q ≡ v % q = ap (λ u. v % u % q) (sym cut.1) ∙ cut.0.low in
    let whole : whole_text x ≡ whole_text (v / 10 ^ 16) ++ padded_text (16 - p) (v % 10 ^ 16 / q % t) =
    whole_text_split (16 - p) x more ∙ rw (high, rest) refl in
    decimal_text-parts p v ∙ rw (whole, fraction_text-low p v (v % 10 ^ 16) low) (append_assoc (whole_text (v / 10 ^ 16)) (padded_text (16 - p) (v % 10 ^ 16 / q % t)) (fraction_text p (v % 10 ^ 16)))
