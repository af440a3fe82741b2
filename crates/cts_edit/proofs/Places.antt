-- The element of a list at a place, after a write and after one element more.
use Rattle.std.proofs.Common.{◌≡◌, ◌≢◌, ℕ, ◌<◌, ◌⊎◌, inl, inr, List, [], ◌∷◌, ◌++◌, zero, suc, length, set, slice_get, Some, refl, ap, arith}

pub get_set_same : {A : Type 0} (l : List A) (k : ℕ) (a : A) → k < length l → slice_get (set l k a) k ≡ Some a
get_set_same [] k a h = absurd (omega arith)
get_set_same (x ∷ l) zero a h = refl
get_set_same (x ∷ l) (suc k) a h = get_set_same l k a (omega arith)

pub get_set_other : {A : Type 0} (l : List A) (k j : ℕ) (a : A) → j ≢ k → slice_get (set l k a) j ≡ slice_get l j
get_set_other [] k j a h = refl
get_set_other (x ∷ l) zero zero a h = absurd (h refl)
get_set_other (x ∷ l) zero (suc j) a h = refl
get_set_other (x ∷ l) (suc k) zero a h = refl
get_set_other (x ∷ l) (suc k) (suc j) a h = get_set_other l k j a (λ e. h (ap suc e))

-- one element more: an element is one of those before, or the new one
pub get_push : {A : Type 0} (l : List A) (y : A) (k : ℕ) (x : A) → slice_get (l ++ y ∷ []) k ≡ Some x
    → ((k < length l) × (slice_get l k ≡ Some x)) ⊎ ((k ≡ length l) × (y ≡ x))
get_push [] y zero x at = inr (refl, (cc))
get_push [] y (suc k) x at = absurd (cc)
get_push (z ∷ l) y zero x at = inl (omega arith, at)
get_push (z ∷ l) y (suc k) x at =
    elim (get_push l y k x at) [
      | inl p ↦ inl (let h : k < length l = p.0 in omega arith, p.1)
      | inr p ↦ inr (ap suc p.0, p.1)
    ]

pub get_before_push : {A : Type 0} (l : List A) (y : A) (k : ℕ) (x : A) → slice_get l k ≡ Some x → slice_get (l ++ y ∷ []) k ≡ Some x
get_before_push [] y k x at = absurd (cc)
get_before_push (z ∷ l) y zero x at = at
get_before_push (z ∷ l) y (suc k) x at = get_before_push l y k x at

pub get_pushed : {A : Type 0} (l : List A) (y : A) → slice_get (l ++ y ∷ []) (length l) ≡ Some y
get_pushed [] y = refl
get_pushed (z ∷ l) y = get_pushed l y

pub get_none : {A : Type 0} (k : ℕ) (x : A) → slice_get {X = A} [] k ≡ Some x → ⊥
get_none k x at = cc
