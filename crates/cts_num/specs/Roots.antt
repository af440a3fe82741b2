-- Roots and quotients of whole numbers, rounded down.
use Rattle.std.specs.Prelude.{ℕ, ◌*◌, ◌≤◌, ℤ, ◌*ℤ◌, ◌≤ℤ◌}

-- the greatest whole number whose square is at most n
pub record IsRoot (n root : ℕ) : Type 0 where
  pub fits : root * root ≤ n
  pub greatest : (k : ℕ) → k * k ≤ n → k ≤ root

-- the greatest whole number whose product with the divisor is at most the dividend
pub record IsFloor (dividend divisor quotient : ℤ) : Type 0 where
  pub fits : (quotient *ℤ divisor) ≤ℤ dividend
  pub greatest : (k : ℤ) → (k *ℤ divisor) ≤ℤ dividend → k ≤ℤ quotient
