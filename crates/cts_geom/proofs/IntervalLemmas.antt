-- Facts about intervals of whole numbers: how far apart two of them are.
use Rattle.std.proofs.Common.{ℕ, ◌≤◌, ℤ, pos, ◌+ℤ◌, ◌≤ℤ◌, arith}
use Rattle.std.specs.Int.{int_max, int_min}
use Rattle.std.proofs.lemmas.Int.{ints, clamps}
use Rattle.cts_geom.specs.Coordinate.{int_abs_diff, interval_gap}

-- n, or the bound of the interval that is nearest to it
unfoldable pub clamped : ℤ → ℤ → ℤ → ℤ
clamped low high n = int_max low (int_min high n)

pub record IsClamped (low high n c : ℤ) : Type 0 where
  pub at_least : low ≤ℤ c
  pub at_most : c ≤ℤ high

pub clamped-inside : (low high n : ℤ) → low ≤ℤ high → IsClamped low high n (clamped low high n)
unfolding clamped
clamped-inside low high n ordered = record { at_least = omega (arith, ints, clamps); at_most = omega (arith, ints, clamps) }

-- a number that is at most d outside of an interval is at most d from the bound it is clamped to
pub clamped-near : (low high n : ℤ) (d : ℕ) → low ≤ℤ high → low ≤ℤ (n +ℤ pos d) → n ≤ℤ (high +ℤ pos d) → int_abs_diff (clamped low high n) n ≤ d
unfolding clamped
clamped-near low high n d ordered above below = omega (arith, ints, clamps)

-- each interval begins at most the gap after the other ends
pub record IsReached (a1 a2 b1 b2 : ℤ) (d : ℕ) : Type 0 where
  pub above : b1 ≤ℤ (a2 +ℤ pos d)
  pub below : a1 ≤ℤ (b2 +ℤ pos d)

pub interval_gap-reached : (a1 a2 b1 b2 : ℤ) → IsReached a1 a2 b1 b2 (interval_gap a1 a2 b1 b2)
unfolding interval_gap
interval_gap-reached a1 a2 b1 b2 = record { above = omega (arith, ints, clamps); below = omega (arith, ints, clamps) }

pub interval_gap-least : (a1 a2 b1 b2 : ℤ) (d : ℕ) → IsReached a1 a2 b1 b2 d → interval_gap a1 a2 b1 b2 ≤ d
unfolding interval_gap
interval_gap-least a1 a2 b1 b2 d reached = omega (arith, ints, clamps)

-- no two numbers of the intervals are nearer than the gap
pub interval_gap-bound : (a1 a2 b1 b2 p q : ℤ) → a1 ≤ℤ p → p ≤ℤ a2 → b1 ≤ℤ q → q ≤ℤ b2 → interval_gap a1 a2 b1 b2 ≤ int_abs_diff p q
interval_gap-bound a1 a2 b1 b2 p q a_low a_high b_low b_high =
    interval_gap-least a1 a2 b1 b2 (int_abs_diff p q) (record { above = omega (arith, ints); below = omega (arith, ints) })

-- the number of the first interval that is nearest to the second is nearest to it by the gap
pub interval_gap-clamped : (a1 a2 b1 b2 : ℤ) → a1 ≤ℤ a2 → b1 ≤ℤ b2 → int_abs_diff (clamped a1 a2 b1) (clamped b1 b2 (clamped a1 a2 b1)) ≤ interval_gap a1 a2 b1 b2
unfolding clamped interval_gap
interval_gap-clamped a1 a2 b1 b2 a_ordered b_ordered = omega (arith, ints, clamps)
