-- The greatest length within a delay, by a quotient and a root.
use Rattle.std.proofs.Common.{◌≡◌, ℕ, ◌+◌, ◌-◌, ◌*◌, ◌/◌, ◌^◌, ◌<◌, ◌≤◌, inl, inr, ap, arith}
use Rattle.std.proofs.lemmas.Bool.{cases_lt}
use Rattle.std.proofs.lemmas.Nat.{le-div}
use Rattle.std.proofs.Math.Nat.{mul-le-mul, div-mul-le_self, le_of_mul-le-mul_left}
use Rattle.cts_num.specs.Roots.{IsRoot}
use Rattle.cts_units.specs.Delay.{wire_delay_of}

-- the root of a number below 2^126
pub root_le : (n root : ℕ) → IsRoot n root → n < 2 ^ 126 → root < 2 ^ 63
root_le n root is small =
    elim (cases_lt root (2 ^ 63)) [
      | inl within ↦ within
      | inr over ↦
          let more : 2 ^ 63 * 2 ^ 63 ≤ root * root = mul-le-mul over over in
          absurd (omega (arith, is.fits, more))
    ]

-- a square with something added has at least its own root
pub own_root : (n more load root : ℕ) → n ≡ load * load + more → IsRoot n root → load ≤ root
own_root n more load root e is = is.greatest load (omega (arith, e))

square_of : (c len load : ℕ) → (c * len + load) * (c * len + load) ≡ load * load + c * (len * (c * len + 2 * load))
square_of c len load = omega arith

product_of : (r c len load : ℕ) → r * len * (c * len + 2 * load) ≡ r * (len * (c * len + 2 * load))
product_of r c len load = omega arith

-- the length that the root gives is within the delay
pub longest_fits : (r c load delay n root len : ℕ) → 1 ≤ c → n ≡ load * load + c * (delay / r) → IsRoot n root
    → len ≡ (root - load) / c → wire_delay_of r c len load ≤ delay
unfolding wire_delay_of
longest_fits r c load delay n root len some e is l =
    let from : load ≤ root = own_root n (c * (delay / r)) load root e is in
    let part : (root - load) / c * c ≤ root - load = div-mul-le_self (root - load) c in
    let below : c * len + load ≤ root = omega (arith, from, part, ap (λ (x : ℕ). x * c) l) in
    let squares : (c * len + load) * (c * len + load) ≤ root * root = mul-le-mul below below in
    let scaled : c * (len * (c * len + 2 * load)) ≤ c * (delay / r) = omega (arith, squares, is.fits, e, square_of c len load) in
    let own : len * (c * len + 2 * load) ≤ delay / r = le_of_mul-le-mul_left scaled (omega arith) in
    let all : (len * (c * len + 2 * load)) * r ≤ delay / r * r = mul-le-mul own (omega arith) in
    omega (arith, all, div-mul-le_self delay r, product_of r c len load)

-- and no other such length is greater
pub longest_greatest : (r c load delay n root len x : ℕ) → 1 ≤ r → 1 ≤ c → n ≡ load * load + c * (delay / r)
    → IsRoot n root → len ≡ (root - load) / c → wire_delay_of r c x load ≤ delay → x ≤ len
unfolding wire_delay_of
longest_greatest r c load delay n root len x some_r some e is l fits =
    let own : x * (c * x + 2 * load) ≤ delay / r = le-div (x * (c * x + 2 * load)) delay r (omega arith) (omega (arith, fits, product_of r c x load)) in
    let scaled : c * (x * (c * x + 2 * load)) ≤ c * (delay / r) = mul-le-mul (omega arith) own in
    let below : c * x + load ≤ root = is.greatest (c * x + load) (omega (arith, e, scaled, square_of c x load)) in
    let inside : x ≤ (root - load) / c = le-div x (root - load) c (omega arith) (omega (arith, below)) in
    omega (arith, inside, l)

-- a wire's delay by its resistance, far below what a root takes
pub delay_le : (r c len load : ℕ) → c ≤ 10 ^ 6 → len ≤ 2 ^ 32 → load ≤ 2 ^ 56 → wire_delay_of r c len load ≤ r * 2 ^ 105
unfolding wire_delay_of
delay_le r c len load small short light =
    let own : c * len ≤ 10 ^ 6 * 2 ^ 32 = mul-le-mul small short in
    let charge : c * len + 2 * load ≤ 2 ^ 58 = omega (arith, own) in
    let part : len * (c * len + 2 * load) ≤ 2 ^ 32 * 2 ^ 58 = mul-le-mul short charge in
    let same : r ≤ r = omega arith in
    let all : r * (len * (c * len + 2 * load)) ≤ r * 2 ^ 105 = mul-le-mul same (omega (arith, part)) in
    omega (arith, all, product_of r c len load)
