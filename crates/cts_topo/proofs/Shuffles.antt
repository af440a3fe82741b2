-- Lists with the same items in another order, as data, and what does not see the order.
use Rattle.std.proofs.Common.{◌≡◌, ℕ, zero, suc, ◌+◌, ◌<◌, Bool, true, false, cond, List, [], ◌∷◌, ◌++◌, map, set, length, get_or, swap, filter, sum_by, IsPermutation, refl, sym, ap, ◌∙◌, arith}
use Rattle.std.proofs.lemmas.List.Sorted.{IsPermutation-keeps}
use Rattle.std.proofs.lemmas.List.Sums.{sum_by-cons}
pub use Rattle.cts_topo.specs.Shuffled.{Shuffled, same, skip, turn, chain}

module _ {X : Type 0} where
  pub turned_round : {xs ys : List X} → Shuffled xs ys → Shuffled ys xs
  turned_round same = same
  turned_round (skip s) = skip (turned_round s)
  turned_round turn = turn
  turned_round (chain s t) = chain (turned_round t) (turned_round s)

  -- the first item and one of the rest exchanged
  to_front : (x d : X) (xs : List X) (j : ℕ) → j < length xs → Shuffled (x ∷ xs) (get_or xs j d ∷ set xs j x)
  to_front x d [] j h = absurd (omega arith)
  to_front x d (y ∷ ys) zero h = turn
  to_front x d (y ∷ ys) (suc j) h = chain turn (chain (skip (to_front x d ys j (omega arith))) turn)

  exchanged : (xs : List X) (d : X) (i j : ℕ) → i < length xs → j < length xs
      → Shuffled xs (set (set xs i (get_or xs j d)) j (get_or xs i d))
  exchanged [] d i j h w = absurd (omega arith)
  exchanged (x ∷ xs) d zero zero h w = same
  exchanged (x ∷ xs) d zero (suc j) h w = to_front x d xs j (omega arith)
  exchanged (x ∷ xs) d (suc i) zero h w = to_front x d xs i (omega arith)
  exchanged (x ∷ xs) d (suc i) (suc j) h w = skip (exchanged xs d i j (omega arith) (omega arith))

  swapped : (xs : List X) (i j : ℕ) → i < length xs → j < length xs → Shuffled xs (swap xs i j)
  swapped [] i j h w = absurd (omega arith)
  swapped (x ∷ xs) i j h w = exchanged (x ∷ xs) x i j h w

  pub shuffled_of : (xs ys : List X) → IsPermutation xs ys → Shuffled xs ys
  shuffled_of xs ys p =
      IsPermutation-keeps xs (Shuffled xs) same (λ l i j h w s. chain s (swapped l i j h w)) ys p

  pub length-Shuffled : {xs ys : List X} → Shuffled xs ys → length xs ≡ length ys
  length-Shuffled same = refl
  length-Shuffled (skip s) = ap suc (length-Shuffled s)
  length-Shuffled turn = refl
  length-Shuffled (chain s t) = length-Shuffled s ∙ length-Shuffled t

  pub sum_by-Shuffled : (f : X → ℕ) {xs ys : List X} → Shuffled xs ys → sum_by f xs ≡ sum_by f ys
  sum_by-Shuffled f same = refl
  sum_by-Shuffled f (skip {x} {xs} {ys} s) =
      sum_by-cons f x xs ∙ ap (λ n. f x + n) (sum_by-Shuffled f s) ∙ sym (sum_by-cons f x ys)
  sum_by-Shuffled f (turn {x} {y} {xs}) =
      omega (arith, sum_by-cons f x (y ∷ xs), sum_by-cons f y xs, sum_by-cons f y (x ∷ xs), sum_by-cons f x xs)
  sum_by-Shuffled f (chain s t) = sum_by-Shuffled f s ∙ sum_by-Shuffled f t

  pub filter-Shuffled : (p : X → Bool) {xs ys : List X} → Shuffled xs ys → Shuffled (filter p xs) (filter p ys)
  filter-Shuffled p same = same
  filter-Shuffled p (skip {x} {xs} {ys} s) =
      elim (p x) as (λ b. Shuffled (cond b (x ∷ filter p xs) (filter p xs)) (cond b (x ∷ filter p ys) (filter p ys))) [
        | true ↦ skip (filter-Shuffled p s)
        | false ↦ filter-Shuffled p s
      ]
  filter-Shuffled p (turn {x} {y} {xs}) = both_ways (p x) (p y) x y (filter p xs)
    where
      both_ways : (a b : Bool) (x y : X) (zs : List X)
          → Shuffled (cond a (x ∷ cond b (y ∷ zs) zs) (cond b (y ∷ zs) zs)) (cond b (y ∷ cond a (x ∷ zs) zs) (cond a (x ∷ zs) zs))
      both_ways true true x y zs = turn
      both_ways true false x y zs = same
      both_ways false true x y zs = same
      both_ways false false x y zs = same
  filter-Shuffled p (chain s t) = chain (filter-Shuffled p s) (filter-Shuffled p t)

  pub map-Shuffled : {Y : Type 0} (f : X → Y) {xs ys : List X} → Shuffled xs ys → Shuffled (map f xs) (map f ys)
  map-Shuffled f same = same
  map-Shuffled f (skip s) = skip (map-Shuffled f s)
  map-Shuffled f turn = turn
  map-Shuffled f (chain s t) = chain (map-Shuffled f s) (map-Shuffled f t)

  pub append-Shuffled : {xs ys us vs : List X} → Shuffled xs ys → Shuffled us vs → Shuffled (xs ++ us) (ys ++ vs)
  append-Shuffled {xs} {ys} {us} {vs} s t = chain (before xs t) (after vs s)
    where
      before : (zs : List X) {us ws : List X} → Shuffled us ws → Shuffled (zs ++ us) (zs ++ ws)
      before [] s = s
      before (z ∷ zs) s = skip (before zs s)

      after : (zs : List X) {us ws : List X} → Shuffled us ws → Shuffled (us ++ zs) (ws ++ zs)
      after zs same = same
      after zs (skip s) = skip (after zs s)
      after zs turn = turn
      after zs (chain s t) = chain (after zs s) (after zs t)

  -- a list of one item has one order
  pub Shuffled-one : (x : X) (ys : List X) → Shuffled (x ∷ []) ys → ys ≡ x ∷ []
  Shuffled-one x ys s = one s refl
    where
      none : {us ws : List X} → Shuffled us ws → us ≡ [] → ws ≡ []
      none same e = e
      none (skip s) e = cc
      none turn e = cc
      none (chain s t) e = none t (none s e)

      one : {x : X} {us ws : List X} → Shuffled us ws → us ≡ x ∷ [] → ws ≡ x ∷ []
      one same e = e
      one {x} (skip {x = y} {xs} {ys} s) e = let empty : xs ≡ [] = cc in let rest : ys ≡ [] = none s empty in cc
      one turn e = cc
      one (chain s t) e = one t (one s e)
