-- Roots and quotients rounded down, from what the library says of them.
use Rattle.std.proofs.Common.{◌≡◌, ℕ, ◌+◌, ◌*◌, ◌/◌, ◌<◌, ◌≤◌, ℤ, pos, negsuc, ◌*ℤ◌, ◌≤ℤ◌, ◌<ℤ◌, ◌∙◌, inl, inr, subst, sym, ap, arith}
use Rattle.std.proofs.lemmas.Bool.{cases_lt}
use Rattle.std.proofs.lemmas.Int.{ints}
use Rattle.std.proofs.Math.Nat.{mul-le-mul, div-mul-le_self, lt-div-mul-add}
use Rattle.std.proofs.Math.IntN.{pos-*ℤ-pos, negsuc-*ℤ-pos}
use Rattle.std.specs.Int.{int_div_euclid}
use Rattle.cts_num.specs.Roots.{IsRoot, IsFloor}

pub root_is : (n root : ℕ) → root * root ≤ n → n < (root + 1) * (root + 1) → IsRoot n root
root_is n root fits next = record {
  fits = fits;
  greatest = λ k square.
      elim (cases_lt root k) [
        | inr within ↦ within
        | inl over ↦
            let more : (root + 1) * (root + 1) ≤ k * k = mul-le-mul (omega arith) (omega arith) in
            absurd (omega (arith, square, next, more))
      ];
}

-- a number whose product with the divisor is at most the dividend is at most the quotient
below_quotient : (m n k q : ℕ) → q * n ≤ m → m < q * n + n → k * n ≤ m → k ≤ q
below_quotient m n k q low high fits =
    elim (cases_lt q k) [
      | inr within ↦ within
      | inl over ↦
          let more : (q + 1) * n ≤ k * n = mul-le-mul (omega arith) (omega arith) in
          absurd (omega (arith, low, high, fits, more))
    ]

-- a number whose successor's product with the divisor is above the dividend is at least the quotient
above_quotient : (m n k q : ℕ) → q * n ≤ m → m < k * n + n → q ≤ k
above_quotient m n k q low high =
    elim (cases_lt k q) [
      | inr within ↦ within
      | inl over ↦
          let more : (k + 1) * n ≤ q * n = mul-le-mul (omega arith) (omega arith) in
          absurd (omega (arith, low, high, more))
    ]

pos_below : (m n q : ℕ) → q * n ≤ m → m < q * n + n → (k : ℤ) → (k *ℤ pos n) ≤ℤ pos m → k ≤ℤ pos q
pos_below m n q low high (pos k) fits =
    omega (arith, ints, below_quotient m n k q low high (omega (arith, ints, pos-*ℤ-pos k n, fits)))
pos_below m n q low high (negsuc k) fits = omega (arith, ints)

negative_below : (m n q : ℕ) → q * n ≤ m → m < q * n + n → (k : ℤ) → (k *ℤ pos n) ≤ℤ negsuc m → k ≤ℤ negsuc q
negative_below m n q low high (pos k) fits = absurd (omega (arith, ints, pos-*ℤ-pos k n, fits))
negative_below m n q low high (negsuc k) fits =
    omega (arith, ints, above_quotient m n k q low (omega (arith, ints, negsuc-*ℤ-pos k n, fits)))

floor_by : (a : ℤ) (n : ℕ) → 0 < n → IsFloor a (pos n) (int_div_euclid a (pos n))
floor_by (pos m) n some =
    let low : m / n * n ≤ m = div-mul-le_self m n in
    let high : m < m / n * n + n = lt-div-mul-add some in
    record {
      fits = omega (arith, ints, pos-*ℤ-pos (m / n) n, low);
      greatest = pos_below m n (m / n) low high;
    }
floor_by (negsuc m) n some =
    let low : m / n * n ≤ m = div-mul-le_self m n in
    let high : m < m / n * n + n = lt-div-mul-add some in
    record {
      fits = omega (arith, ints, negsuc-*ℤ-pos (m / n) n, high);
      greatest = negative_below m n (m / n) low high;
    }

floor_is : (a b : ℤ) → pos 0 <ℤ b → IsFloor a b (int_div_euclid a b)
floor_is a (pos n) some = floor_by a n (omega (arith, ints))
floor_is a (negsuc n) some = absurd (omega (arith, ints))

-- the same for numbers that are equal to the dividend, the divisor and the quotient
pub floor_found : (a b x y q r : ℤ) → pos 0 <ℤ b → q ≡ int_div_euclid x y → x ≡ a → y ≡ b → r ≡ q → IsFloor a b r
floor_found a b x y q r some is first second same =
    subst (IsFloor a b) (sym (same ∙ is ∙ ap (λ z. int_div_euclid z y) first ∙ ap (int_div_euclid a) second)) (floor_is a b some)
