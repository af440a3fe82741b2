-- What holds of each view, where one view changes or one is added.
use Rattle.std.proofs.Common.{◌≡◌, ◌≢◌, ℕ, zero, suc, ◌<◌, List, [], ◌∷◌, ◌++◌, length, set, sym, ◌∙◌, subst, ⊎_elim, arith}
use mathlib.Core.Option.{some, some-injective, some-ne-none}
use lib.ListN.{get_elem?}
use Rattle.atomic_table.proofs.Lists.{at_set, at_snoc, set_here, set_else}

module _ {A : Type 0} where
  pub at_inside : (l : List A) (i : ℕ) (a : A) → get_elem? l i ≡ some a → i < length l
  at_inside [] i a at = absurd (some-ne-none a (sym at))
  at_inside (x ∷ xs) zero a at = omega arith
  at_inside (x ∷ xs) (suc i) a at = omega (arith, at_inside xs i a at)

  pub at_same : (l : List A) (i : ℕ) (a b : A) → get_elem? l i ≡ some a → get_elem? l i ≡ some b → a ≡ b
  at_same l i a b p q = some-injective a b (sym p ∙ q)

  pub put_here : (l : List A) (i : ℕ) (a b : A) → get_elem? l i ≡ some a → get_elem? (set l i b) i ≡ some b
  put_here l i a b at = set_here l i b (at_inside l i a at)

  pub put_else : (l : List A) (i j : ℕ) (a b : A) → j ≢ i → get_elem? l j ≡ some a → get_elem? (set l i b) j ≡ some a
  put_else l i j a b ne at = set_else l i j b ne ∙ at

  -- a fact on each member and its place
  pub each_set : (P : ℕ → A → Type 0) (l : List A) (i : ℕ) (b : A) → P i b → ((j : ℕ) (a : A) → j ≢ i → get_elem? l j ≡ some a → P j a)
      → (j : ℕ) (a : A) → get_elem? (set l i b) j ≡ some a → P j a
  each_set P l i b here others j a at = ⊎_elim (λ (t : (j ≡ i) × (b ≡ a)). subst (λ (x : ℕ × A). P x.0 x.1) (λ k. (sym t.0 k, t.1 k)) here)
      (λ (t : (j ≢ i) × (get_elem? l j ≡ some a)). others j a t.0 t.1) (at_set l i j b a at)

  pub each_snoc : (P : ℕ → A → Type 0) (l : List A) (b : A) → ((j : ℕ) → P j b) → ((j : ℕ) (a : A) → get_elem? l j ≡ some a → P j a)
      → (j : ℕ) (a : A) → get_elem? (l ++ b ∷ []) j ≡ some a → P j a
  each_snoc P l b here others j a at = ⊎_elim (λ (t : get_elem? l j ≡ some a). others j a t) (λ (t : b ≡ a). subst (P j) t (here j)) (at_snoc l b a j at)

  pub each_single : (a : A) (P : A → Type 0) → P a → (j : ℕ) (b : A) → get_elem? (a ∷ []) j ≡ some b → P b
  each_single a P here zero b at = subst P (some-injective a b at) here
  each_single a P here (suc j) b at = absurd (some-ne-none b (sym at))
