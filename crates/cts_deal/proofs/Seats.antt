-- What holds of each view, where one view changes or one is added.
use Rattle.std.proofs.Common.{◌≡◌, ◌≢◌, ℕ, zero, suc, ◌<◌, List, [], ◌∷◌, ◌++◌, length, set, sym, ◌∙◌, subst, ⊎_elim, arith}
use mathlib.Core.Option.{some, some-ne-none}
use lib.ListN.{get_elem?}
use Rattle.atomic_table.proofs.Lists.{at_set, at_snoc, set_here, set_else}

module _ {A : Type 0} where
  pub at_inside : (l : List A) (i : ℕ) (a : A) → get_elem? l i ≡ some a → i < length l
  at_inside [] i a at = absurd (some-ne-none a (sym at))
  at_inside (x ∷ xs) zero a at = omega arith
  at_inside (x ∷ xs) (suc i) a at = omega (arith, at_inside xs i a at)

  pub put_here : (l : List A) (i : ℕ) (a b : A) → get_elem? l i ≡ some a → get_elem? (set l i b) i ≡ some b
  put_here l i a b at = set_here l i b (at_inside l i a at)

  pub put_else : (l : List A) (i j : ℕ) (a b : A) → j ≢ i → get_elem? l j ≡ some a → get_elem? (set l i b) j ≡ some a
  put_else l i j a b ne at = set_else l i j b ne ∙ at

  pub each_set : (P : A → Type 0) (l : List A) (i : ℕ) (b : A) → P b → ((j : ℕ) (a : A) → get_elem? l j ≡ some a → P a)
      → (j : ℕ) (a : A) → get_elem? (set l i b) j ≡ some a → P a
  each_set P l i b here others j a at = ⊎_elim (λ (t : (j ≡ i) × (b ≡ a)). subst P t.1 here)
      (λ (t : (j ≢ i) × (get_elem? l j ≡ some a)). others j a t.1) (at_set l i j b a at)

  pub each_snoc : (P : A → Type 0) (l : List A) (b : A) → P b → ((j : ℕ) (a : A) → get_elem? l j ≡ some a → P a)
      → (j : ℕ) (a : A) → get_elem? (l ++ b ∷ []) j ≡ some a → P a
  each_snoc P l b here others j a at = ⊎_elim (λ (t : get_elem? l j ≡ some a). others j a t) (λ (t : b ≡ a). subst P t here) (at_snoc l b a j at)

  pub each_single : (P : A → Type 0) (a : A) → P a → (j : ℕ) (b : A) → get_elem? (a ∷ []) j ≡ some b → P b
  each_single P a here j b at = each_snoc P [] a here (λ i c at'. absurd (some-ne-none c (sym at'))) j b at
