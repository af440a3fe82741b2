-- The tables of digit pairs and of powers of ten.
use Rattle.std.proofs.Common.{◌≡◌, ℕ, zero, suc, ◌+◌, ◌-◌, ◌*◌, ◌/◌, ◌%◌, ◌^◌, ◌<◌, ◌≤◌, Bool, true, ◌&&◌, T, eqb, get_or, inl, inr, arith, eq-zero-or-pos, eqb→eq}
use lib.Ieee.Fits.{and_l, and_r}
use Rattle.cts_num.specs.declared.powers.TheConstants.{POWERS_OF_TEN}
use Rattle.cts_num.specs.declared.write.TheConstants.{PAIRS}

abbrev are_pairs : ℕ → Bool
are_pairs zero = true
are_pairs (suc p) = (eqb (get_or PAIRS (p * 2) 0) (48 + p / 10) && eqb (get_or PAIRS (p * 2 + 1) 0) (48 + p % 10)) && are_pairs p

pair_below : (n p : ℕ) → T (are_pairs n) → p < n → (get_or PAIRS (p * 2) 0 ≡ 48 + p / 10) × (get_or PAIRS (p * 2 + 1) 0 ≡ 48 + p % 10)
pair_below zero p t h = absurd (omega arith)
pair_below (suc n) p t h =
    elim (eq-zero-or-pos (n - p)) [
      | inl z ↦ let e : p ≡ n = omega arith in let a = and_l _ (are_pairs n) t in rw e (eqb→eq _ _ (and_l _ _ a), eqb→eq _ _ (and_r _ _ a))
      | inr g ↦ pair_below n p (and_r _ (are_pairs n) t) (omega arith)
    ]

pub PAIRS_at : (p : ℕ) → p < 100 → (get_or PAIRS (p * 2) 0 ≡ 48 + p / 10) × (get_or PAIRS (p * 2 + 1) 0 ≡ 48 + p % 10)
PAIRS_at p h = pair_below 100 p tt h

abbrev are_powers : ℕ → Bool
are_powers zero = true
are_powers (suc k) = eqb (get_or POWERS_OF_TEN k 0) (10 ^ k) && are_powers k

power_below : (n k : ℕ) → T (are_powers n) → k < n → get_or POWERS_OF_TEN k 0 ≡ 10 ^ k
power_below zero k t h = absurd (omega arith)
power_below (suc n) k t h =
    elim (eq-zero-or-pos (n - k)) [
      | inl z ↦ let e : k ≡ n = omega arith in rw e (eqb→eq _ _ (and_l _ (are_powers n) t))
      | inr g ↦ power_below n k (and_r _ (are_powers n) t) (omega arith)
    ]

pub power_at : (k : ℕ) → k ≤ 16 → get_or POWERS_OF_TEN k 0 ≡ 10 ^ k
power_at k h = power_below 17 k tt (omega arith)
