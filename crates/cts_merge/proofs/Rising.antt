-- Delays that rise with the length of the wire, and where one passes another.
use Rattle.std.proofs.Common.{◌≡◌, ℕ, zero, suc, ◌+◌, ◌<◌, ◌≤◌, ◌⊎◌, inl, inr, ap, add-zero, arith}
use Rattle.std.proofs.lemmas.Bool.{cases_lt}

pub record Rises (f : ℕ → ℕ) : Type 0 where
  pub rises : (x y : ℕ) → x < y → f x < f y

-- the values are in the order of the lengths, in a form that `omega` splits by itself
pub order : (f : ℕ → ℕ) → Rises f → (x y : ℕ)
    → ((x ≡ y) × (f x ≡ f y)) ⊎ (((x < y) × (f x < f y)) ⊎ ((y < x) × (f y < f x)))
order f up x y =
    elim (cases_lt x y) [
      | inl below ↦ inr (inl (below, up.rises x y below))
      | inr above ↦ elim (cases_lt y x) [
        | inl below ↦ inr (inr (below, up.rises y x below))
        | inr same ↦ let e : x ≡ y = omega arith in inl (e, ap f e)
      ]
    ]

-- a place where f is not above g, and at the next one it is
pub record Crosses (f g : ℕ → ℕ) (base : ℕ) : Type 0 where
  pub at : ℕ
  pub from : base ≤ at
  pub here : f at ≤ g at
  pub next : g (at + 1) < f (at + 1)

pub crossing : (f g : ℕ → ℕ) (n base : ℕ) → f base ≤ g base → g (base + n) < f (base + n) → Crosses f g base
crossing f g zero base low high = absurd (omega (arith, ap f (add-zero base), ap g (add-zero base)))
crossing f g (suc n) base low high =
    elim (cases_lt (g (base + 1)) (f (base + 1))) [
      | inl next ↦ record { at = base; from = omega arith; here = low; next = next }
      | inr again ↦
          let e : base + suc n ≡ base + 1 + n = omega arith in
          let r = crossing f g n (base + 1) again (omega (arith, ap f e, ap g e)) in
          record { at = r.at; from = omega (arith, r.from); here = r.here; next = r.next }
    ]
