-- Totals over a list that changes at one place.
use Rattle.std.proofs.Common.{◌≡◌, ℕ, zero, suc, ◌+◌, ◌*◌, ◌≤◌, ◌≢◌, List, [], ◌∷◌, ◌++◌, set, sym, refl, ap, arith}
use mathlib.Core.Option.{some, some-injective, some-ne-none}
use lib.ListN.{get_elem?}
use Rattle.cts_deal.specs.Counts.{total}

module _ {A : Type 0} where
  pub total_append : (f : A → ℕ) (xs ys : List A) → total f (xs ++ ys) ≡ total f xs + total f ys
  total_append f [] ys = omega arith
  total_append f (x ∷ xs) ys = omega (arith, total_append f xs ys)

  pub total_set : (f : A → ℕ) (xs : List A) (i : ℕ) (v w : A) → get_elem? xs i ≡ some v → total f (set xs i w) + f v ≡ total f xs + f w
  total_set f [] i v w at = absurd (some-ne-none v (sym at))
  total_set f (x ∷ xs) zero v w at = omega (arith, ap f (some-injective x v at))
  total_set f (x ∷ xs) (suc i) v w at = omega (arith, total_set f xs i v w at)

  -- what is at most k times the other number at each member is so in all
  pub total_le : (k : ℕ) (f g : A → ℕ) (xs : List A) → ((i : ℕ) (v : A) → get_elem? xs i ≡ some v → f v ≤ k * g v) → total f xs ≤ k * total g xs
  total_le k f g [] below = omega arith
  total_le k f g (x ∷ xs) below = omega (arith, below 0 x refl, total_le k f g xs (λ i v at. below (suc i) v at))

  pub total_zero : (f : A → ℕ) (xs : List A) → ((i : ℕ) (v : A) → get_elem? xs i ≡ some v → f v ≡ 0) → total f xs ≡ 0
  total_zero f [] none = refl
  total_zero f (x ∷ xs) none = omega (arith, none 0 x refl, total_zero f xs (λ i v at. none (suc i) v at))

  -- where all others count nothing the total is that of the one
  pub total_only : (f : A → ℕ) (xs : List A) (j : ℕ) (v : A) → get_elem? xs j ≡ some v
      → ((i : ℕ) (w : A) → i ≢ j → get_elem? xs i ≡ some w → f w ≡ 0) → total f xs ≡ f v
  total_only f [] j v at none = absurd (some-ne-none v (sym at))
  total_only f (x ∷ xs) zero v at none =
      omega (arith, ap f (some-injective x v at), total_zero f xs (λ i w at'. none (suc i) w (λ e. omega arith) at'))
  total_only f (x ∷ xs) (suc j) v at none =
      omega (arith, none 0 x (λ e. omega arith) refl, total_only f xs j v at (λ i w ne at'. none (suc i) w (λ e. ne (omega arith)) at'))

  pub one_le_total : (f : A → ℕ) (xs : List A) (j : ℕ) (v : A) → get_elem? xs j ≡ some v → f v ≤ total f xs
  one_le_total f [] j v at = absurd (some-ne-none v (sym at))
  one_le_total f (x ∷ xs) zero v at = omega (arith, ap f (some-injective x v at))
  one_le_total f (x ∷ xs) (suc j) v at = omega (arith, one_le_total f xs j v at)

  pub two_le_total : (f : A → ℕ) (xs : List A) (i j : ℕ) (v w : A) → i ≢ j → get_elem? xs i ≡ some v → get_elem? xs j ≡ some w → f v + f w ≤ total f xs
  two_le_total f [] i j v w ne at at' = absurd (some-ne-none v (sym at))
  two_le_total f (x ∷ xs) zero zero v w ne at at' = absurd (ne refl)
  two_le_total f (x ∷ xs) zero (suc j) v w ne at at' = omega (arith, ap f (some-injective x v at), one_le_total f xs j w at')
  two_le_total f (x ∷ xs) (suc i) zero v w ne at at' = omega (arith, ap f (some-injective x w at'), one_le_total f xs i v at)
  two_le_total f (x ∷ xs) (suc i) (suc j) v w ne at at' = omega (arith, two_le_total f xs i j v w (λ e. ne (ap suc e)) at at')
