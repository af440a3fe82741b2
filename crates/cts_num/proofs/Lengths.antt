-- How many bytes the text of a number takes.
use Rattle.std.proofs.Common.{◌≡◌, ℕ, ◌+◌, ◌-◌, ◌/◌, ◌%◌, ◌^◌, ◌≤◌, ◌++◌, length, ap, ◌∙◌, inl, inr, arith, length-append, eq-zero-or-pos, mod-lt}
use Rattle.cts_num.specs.Decimal.{decimal_text, fraction_text, padded_text, whole_text}
use Rattle.cts_num.proofs.Texts.{decimal_text-cut, decimal_text-parts, fraction_text-zero, length-fraction_text-some, length-padded_text, ten_pos}

pub length-decimal_text : (p v : ℕ) → length (decimal_text p v) ≡ length (whole_text (v / 10 ^ p)) + length (fraction_text p v)
length-decimal_text p v = ap length (decimal_text-parts p v) ∙ length-append (whole_text (v / 10 ^ p)) (fraction_text p v)

-- the same of a value that is cut after 16 digits
pub length-decimal_text_cut : (p v : ℕ) → p ≤ 16 → 10 ^ 16 ≤ v
    → length (decimal_text p v) ≡ length (whole_text (v / 10 ^ 16)) + (16 - p) + length (fraction_text p (v % 10 ^ 16))
length-decimal_text_cut p v le big =
    let t = 10 ^ (16 - p) in
    let middle = v % 10 ^ 16 / 10 ^ p % t in
    let long = length-padded_text (16 - p) middle (mod-lt (v % 10 ^ 16 / 10 ^ p) (ten_pos (16 - p))) in
    let whole = ap length (decimal_text-cut p v le big) ∙ length-append (whole_text (v / 10 ^ 16)) (padded_text (16 - p) middle ++ fraction_text p (v % 10 ^ 16)) in
    omega (arith, whole, long, length-append (padded_text (16 - p) middle) (fraction_text p (v % 10 ^ 16)))

-- a fraction's length goes by the places alone
pub length-fraction_text_same : (p v w : ℕ) → length (fraction_text p v) ≡ length (fraction_text p w)
length-fraction_text_same p v w =
    elim (eq-zero-or-pos p) [
      | inl z ↦ omega (arith, ap (λ j. length (fraction_text j v)) z, ap (λ j. length (fraction_text j w)) z, ap length (fraction_text-zero v), ap length (fraction_text-zero w))
      | inr some ↦ omega (arith, length-fraction_text-some p v some, length-fraction_text-some p w some)
    ]
