-- In a list that rises strictly, as many items are before an item as its index tells. So the items with fewer than m
-- before them are the first m.
use Rattle.std.proofs.Common.{◌≡◌, ℕ, zero, suc, ◌+◌, ◌<◌, ◌≤◌, Bool, true, false, cond, not, nat_lt, List, [], ◌∷◌, take, drop, length, get_or, filter, count_by, refl, ap, ◌∙◌, arith, zero-add}
use Rattle.std.specs.List.{AllByRecursion}
use Rattle.std.proofs.lemmas.List.Sums.{sum_by-cons}
use Rattle.std.proofs.lemmas.Bool.Decides.{nat_tests}

-- each item is less than all later ones
unfoldable pub Rises : {X : Type 0} → (X → X → Bool) → List X → Type 0
Rises lt [] = Unit {0}
Rises lt (x ∷ xs) = AllByRecursion (λ y. lt x y ≡ true) xs × Rises lt xs

pub AllByRecursion-at : {X : Type 0} (P : X → Type 0) (xs : List X) (i : ℕ) (d : X) → AllByRecursion P xs
    → i < length xs → P (get_or xs i d)
AllByRecursion-at P [] i d all h = absurd (omega arith)
AllByRecursion-at P (x ∷ xs) zero d all h = all.0
AllByRecursion-at P (x ∷ xs) (suc i) d all h = AllByRecursion-at P xs i d (all.1) (omega arith)

pub count_by-cons : {X : Type 0} (p : X → Bool) (x : X) (xs : List X)
    → count_by p (x ∷ xs) ≡ cond (p x) 1 0 + count_by p xs
count_by-cons p x xs = sum_by-cons (λ y. cond (p y) 1 0) x xs

module _ {X : Type 0} (lt : X → X → Bool) (asym : (x y : X) → lt x y ≡ true → lt y x ≡ false) where
  pub not_itself : (x : X) → lt x x ≡ false
  not_itself x = cases (lt x x) refl
    where
      cases : (b : Bool) → lt x x ≡ b → lt x x ≡ false
      cases true e = asym x x e
      cases false e = e

  none_before : (x : X) (xs : List X) → AllByRecursion (λ y. lt x y ≡ true) xs → count_by (λ q. lt q x) xs ≡ 0
  none_before x [] all = refl
  none_before x (y ∷ xs) all =
      count_by-cons (λ q. lt q x) y xs ∙ ap (λ b. cond b 1 0 + count_by (λ q. lt q x) xs) (asym x y (all.0))
      ∙ zero-add _ ∙ none_before x xs (all.1)

  pub rank_of : (xs : List X) (i : ℕ) (d : X) → Rises lt xs → i < length xs
      → count_by (λ q. lt q (get_or xs i d)) xs ≡ i
  unfolding Rises
  rank_of [] i d rises h = absurd (omega arith)
  rank_of (x ∷ xs) zero d rises h =
      count_by-cons (λ q. lt q x) x xs ∙ ap (λ b. cond b 1 0 + count_by (λ q. lt q x) xs) (not_itself x)
      ∙ zero-add _ ∙ none_before x xs (rises.0)
  rank_of (x ∷ xs) (suc i) d rises h =
      let y : X = get_or xs i d in
      let first : lt x y ≡ true = AllByRecursion-at (λ z. lt x z ≡ true) xs i d (rises.0) (omega arith) in
      count_by-cons (λ q. lt q y) x xs ∙ ap (λ b. cond b 1 0 + count_by (λ q. lt q y) xs) first
      ∙ omega (arith, rank_of xs i d (rises.1) (omega arith))

-- where the items have the ranks o, o + 1 and so on, those with a rank below m are the first
module _ {X : Type 0} (rank : X → ℕ) (m : ℕ) where
  nothing_early : (o : ℕ) (xs : List X) → m ≤ o
      → ((i : ℕ) (d : X) → i < length xs → rank (get_or xs i d) ≡ o + i)
      → (filter (λ p. nat_lt (rank p) m) xs ≡ []) × (filter (λ p. not (nat_lt (rank p) m)) xs ≡ xs)
  nothing_early o [] h ranks = (refl, refl)
  nothing_early o (x ∷ xs) h ranks =
      let own : rank x ≡ o + 0 = ranks 0 x (omega arith) in
      let late : nat_lt (rank x) m ≡ false = grind (arith, nat_tests) in
      let rest = nothing_early (o + 1) xs (omega arith) (λ i d w. ranks (suc i) d (omega arith) ∙ omega arith) in (
        ap (λ b. cond b (x ∷ filter (λ p. nat_lt (rank p) m) xs) (filter (λ p. nat_lt (rank p) m) xs)) late ∙ rest.0,
        ap (λ b. cond (not b) (x ∷ filter (λ p. not (nat_lt (rank p) m)) xs) (filter (λ p. not (nat_lt (rank p) m)) xs)) late
            ∙ ap (λ ys. x ∷ ys) (rest.1),
      )

  pub split_by_rank : (k o : ℕ) (xs : List X) → m ≡ o + k
      → ((i : ℕ) (d : X) → i < length xs → rank (get_or xs i d) ≡ o + i)
      → (filter (λ p. nat_lt (rank p) m) xs ≡ take k xs) × (filter (λ p. not (nat_lt (rank p) m)) xs ≡ drop k xs)
  split_by_rank zero o xs e ranks = nothing_early o xs (omega arith) ranks
  split_by_rank (suc k) o [] e ranks = (refl, refl)
  split_by_rank (suc k) o (x ∷ xs) e ranks =
      let own : rank x ≡ o + 0 = ranks 0 x (omega arith) in
      let early : nat_lt (rank x) m ≡ true = grind (arith, nat_tests) in
      let rest = split_by_rank k (o + 1) xs (omega arith) (λ i d w. ranks (suc i) d (omega arith) ∙ omega arith) in (
        ap (λ b. cond b (x ∷ filter (λ p. nat_lt (rank p) m) xs) (filter (λ p. nat_lt (rank p) m) xs)) early
            ∙ ap (λ ys. x ∷ ys) (rest.0),
        ap (λ b. cond (not b) (x ∷ filter (λ p. not (nat_lt (rank p) m)) xs) (filter (λ p. not (nat_lt (rank p) m)) xs)) early
            ∙ rest.1,
      )
