-- Choosing from finitely many things: one that has a property, and one of least weight.
use Rattle.std.proofs.Common.{ℕ, ◌≤◌, ◌⊎◌, inl, inr, List, [], ◌∷◌, sym, subst, arith}
use Rattle.std.specs.List.{Contains}
use Rattle.std.proofs.lemmas.Bool.{cases_lt}
use Rattle.cts_route.specs.declared.direction.Direction.{Direction}
use Rattle.cts_route.specs.declared.direction.Direction.TheVariants.{East, West, North, South}
use Rattle.cts_route.proofs.NextLine.{Contains-cases, Contains-first, Contains-later}

-- ---- an element of a list
module _ {X : Type 0} (P : X → Type 0) (decide : (x : X) → P x ⊎ ¬ P x) where
  pub find : (xs : List X) → ((x : X) × (Contains xs x × P x)) ⊎ ((x : X) → Contains xs x → ¬ P x)
  find [] = inr (λ x (k, lt, at) holds. absurd (omega arith))
  find (x ∷ xs) =
      elim (decide x) [
        | inl here ↦ inl (x, (Contains-first x xs, here))
        | inr no_here ↦ elim (find xs) [
          | inl later ↦ inl (later.0, (Contains-later x xs later.0 later.1.0, later.1.1))
          | inr none ↦ inr (λ y there holds. elim (Contains-cases x xs y there) [
            | inl same ↦ absurd (no_here (subst P (sym same) holds))
            | inr after ↦ absurd (none y after holds)
          ])
        ]
      ]

-- ---- the least weight
-- one of the things has the least weight, or there are none
abbrev pub HasLeast : (X : Type 0) → (X → ℕ) → Type 0
HasLeast X weight = ((x : X) × ((y : X) → weight x ≤ weight y)) ⊎ (X → ⊥)

-- so do other things that stand for these
pub least_from : {X Y : Type 0} (weight : X → ℕ) (weight' : Y → ℕ) (to : X → Y) (back : Y → X)
    → ((x : X) (y : Y) → weight x ≤ weight (back y) → weight' (to x) ≤ weight' y) → HasLeast X weight → HasLeast Y weight'
least_from weight weight' to back keeps (inl least) = inl (to least.0, λ y. keeps least.0 y (least.1 (back y)))
least_from weight weight' to back keeps (inr none) = inr (λ y. none (back y))

-- the weight of a thing of one of two kinds
unfoldable weight_of : {X Y : Type 0} → (X → ℕ) → (Y → ℕ) → X ⊎ Y → ℕ
weight_of weight weight' (inl x) = weight x
weight_of weight weight' (inr y) = weight' y

least_of_two : {X Y : Type 0} (weight : X → ℕ) (weight' : Y → ℕ) → HasLeast X weight → HasLeast Y weight'
    → HasLeast (X ⊎ Y) (weight_of weight weight')
unfolding weight_of
least_of_two {X} {Y} weight weight' (inr none) (inr none') = inr both_none
  where
    both_none : X ⊎ Y → ⊥
    both_none (inl x) = none x
    both_none (inr y) = none' y
least_of_two {X} {Y} weight weight' (inl least) (inr none) = inl (inl least.0, no_less)
  where
    no_less : (z : X ⊎ Y) → weight least.0 ≤ weight_of weight weight' z
    no_less (inl x) = least.1 x
    no_less (inr y) = absurd (none y)
least_of_two {X} {Y} weight weight' (inr none) (inl least) = inl (inr least.0, no_less)
  where
    no_less : (z : X ⊎ Y) → weight' least.0 ≤ weight_of weight weight' z
    no_less (inl x) = absurd (none x)
    no_less (inr y) = least.1 y
least_of_two {X} {Y} weight weight' (inl first) (inl second) =
    elim (cases_lt (weight' second.0) (weight first.0)) [
      | inl less ↦ inl (inr second.0, no_less (weight' second.0) (omega arith) (omega arith))
      | inr no_more ↦ inl (inl first.0, no_less (weight first.0) (omega arith) (omega arith))
    ]
  where
    no_less : (least : ℕ) → least ≤ weight first.0 → least ≤ weight' second.0 → (z : X ⊎ Y) → least ≤ weight_of weight weight' z
    no_less least le le' (inl x) = let more = first.1 x in omega (arith, more)
    no_less least le le' (inr y) = let more = second.1 y in omega (arith, more)

-- of things that each belong to a direction
module _ {X : Direction → Type 0} (weight : (direction : Direction) → X direction → ℕ) where
  abbrev Any : Type 0
  Any = (direction : Direction) × X direction

  abbrev Sorted : Type 0
  Sorted = X East ⊎ (X West ⊎ (X North ⊎ X South))

  abbrev weight_sorted : Sorted → ℕ
  weight_sorted = weight_of (weight East) (weight_of (weight West) (weight_of (weight North) (weight South)))

  any : Sorted → Any
  any (inl x) = (East, x)
  any (inr (inl x)) = (West, x)
  any (inr (inr (inl x))) = (North, x)
  any (inr (inr (inr x))) = (South, x)

  sorted : Any → Sorted
  sorted (East, x) = inl x
  sorted (West, x) = inr (inl x)
  sorted (North, x) = inr (inr (inl x))
  sorted (South, x) = inr (inr (inr x))

  any_weighs : (z : Sorted) → weight (any z).0 (any z).1 ≤ weight_sorted z
  unfolding weight_of any
  any_weighs (inl x) = omega arith
  any_weighs (inr (inl x)) = omega arith
  any_weighs (inr (inr (inl x))) = omega arith
  any_weighs (inr (inr (inr x))) = omega arith

  sorted_weighs : (y : Any) → weight_sorted (sorted y) ≤ weight y.0 y.1
  unfolding weight_of sorted
  sorted_weighs (East, x) = omega arith
  sorted_weighs (West, x) = omega arith
  sorted_weighs (North, x) = omega arith
  sorted_weighs (South, x) = omega arith

  pub least_direction : ((direction : Direction) → HasLeast (X direction) (weight direction)) → HasLeast Any (λ y. weight y.0 y.1)
  least_direction each =
      least_from weight_sorted (λ y. weight y.0 y.1) any sorted
      (λ z y le. let a = any_weighs z in let b = sorted_weighs y in omega (arith, a, b, le))
      (least_of_two (weight East) _ (each East)
      (least_of_two (weight West) _ (each West) (least_of_two (weight North) (weight South) (each North) (each South))))
