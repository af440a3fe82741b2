-- Whole numbers with a sign, as coordinates.
use Rattle.std.specs.Prelude.{◌≡◌, ℕ, ◌%◌, ◌^◌, ℤ, pos, neg_ℤ, ◌-ℤ◌, ◌≤ℤ◌, unsigned_abs}
use Rattle.std.specs.Int.{int_max}

-- at most 2^40 in size, so that sums and differences of a few coordinates fit 64 bits
pub record IsCoordinate (z : ℤ) : Type 0 where
  pub low : neg_ℤ (pos (2 ^ 40)) ≤ℤ z
  pub high : z ≤ℤ pos (2 ^ 40)

-- |a - b|
abbrev pub int_abs_diff : ℤ → ℤ → ℕ
int_abs_diff a b = unsigned_abs (a -ℤ b)

-- how far apart the intervals from a1 to a2 and from b1 to b2 are, 0 where they meet
unfoldable pub interval_gap : ℤ → ℤ → ℤ → ℤ → ℕ
interval_gap a1 a2 b1 b2 = unsigned_abs (int_max (pos 0) (int_max (b1 -ℤ a2) (a1 -ℤ b2)))

abbrev pub IsOdd : ℤ → Type 0
IsOdd z = unsigned_abs z % 2 ≡ 1
