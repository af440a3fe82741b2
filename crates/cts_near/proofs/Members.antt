-- Items of a list: in another order, and of a filter.
use Rattle.std.proofs.Common.{◌≡◌, ◌≢◌, ℕ, zero, suc, ◌⊎◌, inl, inr, Bool, true, false, cond, not, ◌==◌, List, [], ◌∷◌, filter, refl, sym, ap, subst, ◌∙◌, arith}
use Rattle.std.specs.List.{AllByRecursion, Contains}
use Rattle.std.proofs.lemmas.Bool.Decides.{nat_tests}
use Rattle.cts_topo.proofs.Shuffles.{Shuffled, same, skip, turn, chain}
use Rattle.cts_near.specs.Parts.{Part}
use Rattle.cts_near.specs.Near.{without}

module _ {X : Type 0} where
  pub contains_first : (x : X) (xs : List X) → Contains (x ∷ xs) x
  contains_first x xs = (0, omega arith, refl)

  pub contains_later : (x y : X) (xs : List X) → Contains xs x → Contains (y ∷ xs) x
  contains_later x y xs c = (suc c.0, omega (arith, c.1), c.2)

  pub contains_cases : (x y : X) (xs : List X) → Contains (y ∷ xs) x → (y ≡ x) ⊎ Contains xs x
  contains_cases x y xs (zero, h, is) = inl is
  contains_cases x y xs (suc k, h, is) = inr (k, omega arith, is)

  pub contains_none : (x : X) → Contains [] x → ⊥
  contains_none x c = omega (arith, c.1)

  pub contains-Shuffled : {xs ys : List X} → Shuffled xs ys → (x : X) → Contains xs x → Contains ys x
  contains-Shuffled same x c = c
  contains-Shuffled (skip {x = y} {xs} {ys} s) x c =
      elim (contains_cases x y xs c) [
        | inl is ↦ subst (Contains (y ∷ ys)) is (contains_first y ys)
        | inr later ↦ contains_later x y ys (contains-Shuffled s x later)
      ]
  contains-Shuffled (turn {x = y} {y = z} {xs}) x c =
      elim (contains_cases x y (z ∷ xs) c) [
        | inl is ↦ subst (Contains (z ∷ y ∷ xs)) is (contains_later y z (y ∷ xs) (contains_first y xs))
        | inr later ↦ elim (contains_cases x z xs later) [
          | inl is ↦ subst (Contains (z ∷ y ∷ xs)) is (contains_first z (y ∷ xs))
          | inr rest ↦ contains_later x z (y ∷ xs) (contains_later x y xs rest)
        ]
      ]
  contains-Shuffled (chain s t) x c = contains-Shuffled t x (contains-Shuffled s x c)

  -- what holds of all items, by recursion, holds of one that is contained
  pub all_contained : (P : X → Type 0) (xs : List X) (x : X) → AllByRecursion P xs → Contains xs x → P x
  all_contained P [] x all c = absurd (contains_none x c)
  all_contained P (y ∷ ys) x all c =
      elim (contains_cases x y ys c) [
        | inl is ↦ subst P is (all.0)
        | inr later ↦ all_contained P ys x (all.1) later
      ]

  pub all_of_contained : (P : X → Type 0) (xs : List X) → ((x : X) → Contains xs x → P x) → AllByRecursion P xs
  all_of_contained P [] h = tt
  all_of_contained P (y ∷ ys) h =
      (h y (contains_first y ys), all_of_contained P ys (λ x c. h x (contains_later x y ys c)))

  pub all-Shuffled : (P : X → Type 0) {xs ys : List X} → Shuffled xs ys → AllByRecursion P xs → AllByRecursion P ys
  all-Shuffled P same all = all
  all-Shuffled P (skip s) all = (all.0, all-Shuffled P s (all.1))
  all-Shuffled P turn all = (all.1.0, (all.0, all.1.1))
  all-Shuffled P (chain s t) all = all-Shuffled P t (all-Shuffled P s all)

  pub all-filter : (P : X → Type 0) (test : X → Bool) (xs : List X) → AllByRecursion P xs → AllByRecursion P (filter test xs)
  all-filter P test [] all = tt
  all-filter P test (x ∷ xs) all =
      elim (test x) as (λ b. AllByRecursion P (cond b (x ∷ filter test xs) (filter test xs))) [
        | true ↦ (all.0, all-filter P test xs (all.1))
        | false ↦ all-filter P test xs (all.1)
      ]

-- the parts without a name
pub without_skips : (name : ℕ) (p : Part) (ps : List Part) → p.name ≢ name → without name (p ∷ ps) ≡ p ∷ without name ps
without_skips name p ps other =
    let test : (p.name == name) ≡ false = grind (arith, nat_tests) in
    ap (λ (b : Bool). cond (not b) (p ∷ without name ps) (without name ps)) test

pub without_drops : (name : ℕ) (p : Part) (ps : List Part) → p.name ≡ name → without name (p ∷ ps) ≡ without name ps
without_drops name p ps is =
    let test : (p.name == name) ≡ true = grind (arith, nat_tests) in
    ap (λ (b : Bool). cond (not b) (p ∷ without name ps) (without name ps)) test

pub without_none : (name : ℕ) (ps : List Part) → AllByRecursion (λ (q : Part). name ≢ q.name) ps → without name ps ≡ ps
without_none name [] all = refl
without_none name (p ∷ ps) all =
    without_skips name p ps (λ e. all.0 (sym e)) ∙ ap (λ qs. p ∷ qs) (without_none name ps (all.1))
