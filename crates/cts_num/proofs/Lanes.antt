-- Sixteen digits, two in each of eight lanes.
use Rattle.std.proofs.Common.{◌≡◌, ℕ, zero, suc, ◌+◌, ◌-◌, ◌*◌, ◌/◌, ◌%◌, ◌^◌, ◌<◌, List, [], ◌∷◌, ◌++◌, map, refl, sym, ap, ◌∙◌, arith, append_assoc, append-nil, div-one, pow-suc}
use Rattle.std.specs.Int.Digits.{AllBelowBase}
use lib.Lanes.{number_l, digits_l}
use Rattle.cts_num.specs.Decimal.{glyph, padded_text, pair_text}
use Rattle.cts_num.proofs.Texts.{cut_by, low_text_step, low_text-zero, padded_text_pair, padded_text_step, padded_text-zero, ten_pos}

-- the text of two digits for each number
abbrev pub pairs_text : List ℕ → List ℕ
pairs_text [] = []
pairs_text (z ∷ zs) = glyph (z / 10) ∷ glyph (z % 10) ∷ pairs_text zs

abbrev lane : ℕ → ℕ
lane z = ((z * 256 % 65536 + (65536 - z / 10 * 2559 % 65536)) % 65536 + 12336) % 65536

abbrev twice : List ℕ → ℕ
twice [] = 0
twice (z ∷ zs) = suc (suc (twice zs))

pub bytes_of : (zs : List ℕ) → AllBelowBase 100 zs → digits_l 256 (twice zs) (number_l 65536 (map lane zs)) ≡ pairs_text zs
bytes_of [] h = refl
bytes_of (z ∷ zs) h =
    let rest = number_l 65536 (map lane zs) in
    let is : lane z ≡ 48 + z / 10 + 256 * (48 + z % 10) = omega (arith, h.0) in
    let tens : (lane z + 65536 * rest) % 256 ≡ 48 + z / 10 = rw is (omega (arith, h.0)) in
    let ones : (lane z + 65536 * rest) / 256 % 256 ≡ 48 + z % 10 = rw is (omega (arith, h.0)) in
    let on : (lane z + 65536 * rest) / 256 / 256 ≡ rest = rw is (omega (arith, h.0)) in
    (λ i. tens i ∷ ones i ∷ digits_l 256 (twice zs) (on i)) ∙ ap (λ l. glyph (z / 10) ∷ glyph (z % 10) ∷ l) (bytes_of zs h.1)

-- a padded text in two parts
padded_text_split : (a b n : ℕ) → padded_text (a + b) n ≡ padded_text a (n / 10 ^ b) ++ padded_text b (n % 10 ^ b)
padded_text_split a zero n =
    let e : a + 0 ≡ a = omega arith in
    rw (e, low_text-zero n, append-nil (padded_text a (n / 1)), div-one n) refl
padded_text_split a (suc b) n =
    let s : a + suc b ≡ a + b + 1 = omega arith in
    let t : suc b ≡ b + 1 = omega arith in
    let over : n / 10 / 10 ^ b ≡ n / 10 ^ suc b = (cut_by n 10 (10 ^ b) (omega arith) (ten_pos b)).high ∙ ap (λ d. n / d) (sym (pow-suc 10 b)) in
    let low : padded_text b (n / 10 % 10 ^ b) ++ glyph (n % 10) ∷ [] ≡ padded_text (suc b) (n % 10 ^ suc b) = sym (ap (λ k. padded_text k (n % 10 ^ k)) t ∙ low_text_step b n) in
    ap (λ k. padded_text k n) s ∙ padded_text_step (a + b) n ∙ ap (λ l. l ++ glyph (n % 10) ∷ []) (padded_text_split a b (n / 10))
    ∙ append_assoc (padded_text a (n / 10 / 10 ^ b)) (padded_text b (n / 10 % 10 ^ b)) (glyph (n % 10) ∷ []) ∙ rw (over, low) refl

padded_text_two : (n : ℕ) → n < 100 → padded_text 2 n ≡ pair_text n
padded_text_two n h =
    let q : n / 100 ≡ 0 = omega arith in
    let r : n % 100 ≡ n = omega arith in
    padded_text_pair 0 n ∙ rw (q, r, padded_text-zero 0 (omega arith)) refl

-- two more digits in front of the last b
pair_before : (b n : ℕ) (rest : List ℕ) → padded_text b (n % 10 ^ b) ≡ rest
    → padded_text (suc (suc b)) (n % 10 ^ suc (suc b)) ≡ glyph (n / 10 ^ b % 100 / 10) ∷ glyph (n / 10 ^ b % 100 % 10) ∷ rest
pair_before b n rest e =
    let p = 10 ^ b in
    let hundred : 10 ^ suc (suc b) ≡ 100 * p = omega (arith, pow-suc 10 (suc b), pow-suc 10 b) in
    let w : suc (suc b) ≡ 2 + b = omega arith in
    let cut = cut_by n p 100 (ten_pos b) (omega arith) in
    ap (λ m. padded_text (suc (suc b)) (n % m)) hundred ∙ ap (λ k. padded_text k (n % (100 * p))) w ∙ padded_text_split 2 b (n % (100 * p))
    ∙ rw (← cut.rest, cut.low, padded_text_two (n / p % 100) (omega arith), e) refl

-- the numbers of two digits in a number of sixteen
abbrev pub lanes : ℕ → List ℕ
lanes n = n / 10 ^ 14 ∷ n / 10 ^ 12 % 100 ∷ n / 10 ^ 10 % 100 ∷ n / 10 ^ 8 % 100 ∷ n / 10 ^ 6 % 100 ∷ n / 10000 % 100 ∷ n / 100 % 100 ∷ n % 100 ∷ []

pub lanes-small : (n : ℕ) → n < 10 ^ 16 → AllBelowBase 100 (lanes n)
lanes-small n h = omega arith

pub sixteen_text : (n : ℕ) → n < 10 ^ 16 → padded_text 16 n ≡ pairs_text (lanes n)
sixteen_text n h =
    let whole : n ≡ n % 10 ^ 16 = omega arith in
    let first : n / 10 ^ 14 % 100 ≡ n / 10 ^ 14 = omega arith in
    let last : n / 1 % 100 ≡ n % 100 = ap (λ m. m % 100) (div-one n) in
    ap (padded_text 16) whole
    ∙ pair_before 14 n _ (pair_before 12 n _ (pair_before 10 n _ (pair_before 8 n _ (pair_before 6 n _ (pair_before 4 n _ (pair_before 2 n _ (pair_before 0 n _ (low_text-zero n))))))))
    ∙ rw (first, last) refl
