-- Two lists that are related place by place.
use Rattle.std.proofs.Common.{◌≡◌, ℕ, zero, suc, ◌<◌, ◌⊎◌, inl, inr, List, [], ◌∷◌, ◌++◌, map, length, get_or, refl, sym, ap, subst, ◌∙◌, arith}
use Rattle.std.specs.List.{All, AllZip}

module _ {A B : Type 0} (R : A → B → Type 0) where
  pub all_zip-push : (xs : List A) (ys : List B) (x : A) (y : B) → AllZip R xs ys → R x y
      → AllZip R (xs ++ x ∷ []) (ys ++ y ∷ [])
  all_zip-push [] [] x y all here = (here, tt)
  all_zip-push [] (v ∷ ys) x y all here = absurd all
  all_zip-push (u ∷ xs) [] x y all here = absurd all
  all_zip-push (u ∷ xs) (v ∷ ys) x y all here = (all.0, all_zip-push xs ys x y (all.1) here)

  pub all_zip-at : (xs : List A) (ys : List B) (k : ℕ) (d : A) (e : B) → AllZip R xs ys → k < length xs
      → R (get_or xs k d) (get_or ys k e)
  all_zip-at [] ys k d e all h = absurd (omega arith)
  all_zip-at (x ∷ xs) [] k d e all h = absurd all
  all_zip-at (x ∷ xs) (y ∷ ys) zero d e all h = all.0
  all_zip-at (x ∷ xs) (y ∷ ys) (suc k) d e all h = all_zip-at xs ys k d e (all.1) (omega arith)

  -- two pairs of such lists, one after the other
  pub all_zip-append : (xs us : List A) (ys vs : List B) → AllZip R xs ys → AllZip R us vs → AllZip R (xs ++ us) (ys ++ vs)
  all_zip-append [] us [] vs all more = more
  all_zip-append [] us (y ∷ ys) vs all more = absurd all
  all_zip-append (x ∷ xs) us [] vs all more = absurd all
  all_zip-append (x ∷ xs) us (y ∷ ys) vs all more = (all.0, all_zip-append xs us ys vs (all.1) more)

  -- and such a pair taken apart after as many items as the first parts have
  pub all_zip-front : (xs us : List A) (ys vs : List B) → length ys ≡ length xs → AllZip R (xs ++ us) (ys ++ vs) → AllZip R xs ys
  all_zip-front [] us [] vs long all = tt
  all_zip-front [] us (y ∷ ys) vs long all = absurd (omega arith)
  all_zip-front (x ∷ xs) us [] vs long all = absurd (omega arith)
  all_zip-front (x ∷ xs) us (y ∷ ys) vs long all = (all.0, all_zip-front xs us ys vs (omega arith) (all.1))

  pub all_zip-back : (xs us : List A) (ys vs : List B) → length ys ≡ length xs → AllZip R (xs ++ us) (ys ++ vs) → AllZip R us vs
  all_zip-back [] us [] vs long all = all
  all_zip-back [] us (y ∷ ys) vs long all = absurd (omega arith)
  all_zip-back (x ∷ xs) us [] vs long all = absurd (omega arith)
  all_zip-back (x ∷ xs) us (y ∷ ys) vs long all = all_zip-back xs us ys vs (omega arith) (all.1)

  -- a partner that a function gives
  pub all_zip-of : (f : A → B) → ((x : A) → R x (f x)) → (xs : List A) → AllZip R xs (map f xs)
  all_zip-of f has [] = tt
  all_zip-of f has (x ∷ xs) = (has x, all_zip-of f has xs)

  -- a relation at each place makes one of the lists
  pub all_zip-from : (xs : List A) (ys : List B) → length xs ≡ length ys
      → ((k : ℕ) (d : A) (e : B) → k < length xs → R (get_or xs k d) (get_or ys k e)) → AllZip R xs ys
  all_zip-from [] [] long at = tt
  all_zip-from [] (y ∷ ys) long at = absurd (omega arith)
  all_zip-from (x ∷ xs) [] long at = absurd (omega arith)
  all_zip-from (x ∷ xs) (y ∷ ys) long at =
      (at 0 x y (omega arith), all_zip-from xs ys (omega arith) (λ k d e h. at (suc k) d e (omega arith)))

  -- where each item has one partner at most, so has the list
  pub all_zip-one : ((x : A) (y z : B) → R x y → R x z → y ≡ z) → (xs : List A) (ys zs : List B)
      → AllZip R xs ys → AllZip R xs zs → ys ≡ zs
  all_zip-one one [] [] [] all other = refl
  all_zip-one one [] [] (z ∷ zs) all other = absurd other
  all_zip-one one [] (y ∷ ys) zs all other = absurd all
  all_zip-one one (x ∷ xs) [] zs all other = absurd all
  all_zip-one one (x ∷ xs) (y ∷ ys) [] all other = absurd other
  all_zip-one one (x ∷ xs) (y ∷ ys) (z ∷ zs) all other =
      ap (λ v. v ∷ ys) (one x y z (all.0) (other.0)) ∙ ap (λ vs. z ∷ vs) (all_zip-one one xs ys zs (all.1) (other.1))

  -- a property that each partner has
  pub all_zip-all : (P : B → Type 0) → ((x : A) (y : B) → R x y → P y) → (xs : List A) (ys : List B)
      → AllZip R xs ys → All P ys
  all_zip-all P has [] [] all = λ k d h. absurd (omega arith)
  all_zip-all P has [] (y ∷ ys) all = absurd all
  all_zip-all P has (x ∷ xs) [] all = absurd all
  all_zip-all P has (x ∷ xs) (y ∷ ys) all = λ k d h. elim (at_or_after k) [
    | inl first ↦ subst (λ i. P (get_or (y ∷ ys) i d)) (sym first) (has x y (all.0))
    | inr later ↦
        subst (λ i. P (get_or (y ∷ ys) i d)) (sym (later.1)) (all_zip-all P has xs ys (all.1) (later.0) d (omega (arith, later.1)))
  ]
    where
      at_or_after : (k : ℕ) → (k ≡ 0) ⊎ ((j : ℕ) × (k ≡ suc j))
      at_or_after zero = inl refl
      at_or_after (suc j) = inr (j, refl)

-- another relation that follows
pub all_zip-weaker : {A B : Type 0} (R S : A → B → Type 0) → ((x : A) (y : B) → R x y → S x y) → (xs : List A) (ys : List B)
    → AllZip R xs ys → AllZip S xs ys
all_zip-weaker R S then [] [] all = tt
all_zip-weaker R S then [] (y ∷ ys) all = absurd all
all_zip-weaker R S then (x ∷ xs) [] all = absurd all
all_zip-weaker R S then (x ∷ xs) (y ∷ ys) all = (then x y (all.0), all_zip-weaker R S then xs ys (all.1))

-- a relation between what functions give
module _ {A B : Type 0} (R : A → B → Type 0) where
  pub all_zip-map_left : {X : Type 0} (f : X → A) (xs : List X) (ys : List B) → AllZip (λ x y. R (f x) y) xs ys
      → AllZip R (map f xs) ys
  all_zip-map_left f [] [] all = tt
  all_zip-map_left f [] (y ∷ ys) all = absurd all
  all_zip-map_left f (x ∷ xs) [] all = absurd all
  all_zip-map_left f (x ∷ xs) (y ∷ ys) all = (all.0, all_zip-map_left f xs ys (all.1))

  pub all_zip-map_right : {Y : Type 0} (g : Y → B) (xs : List A) (ys : List Y) → AllZip (λ x y. R x (g y)) xs ys
      → AllZip R xs (map g ys)
  all_zip-map_right g [] [] all = tt
  all_zip-map_right g [] (y ∷ ys) all = absurd all
  all_zip-map_right g (x ∷ xs) [] all = absurd all
  all_zip-map_right g (x ∷ xs) (y ∷ ys) all = (all.0, all_zip-map_right g xs ys (all.1))

  -- and back
  pub all_zip-before_left : {X : Type 0} (f : X → A) (xs : List X) (ys : List B) → AllZip R (map f xs) ys
      → AllZip (λ x y. R (f x) y) xs ys
  all_zip-before_left f [] [] all = tt
  all_zip-before_left f [] (y ∷ ys) all = absurd all
  all_zip-before_left f (x ∷ xs) [] all = absurd all
  all_zip-before_left f (x ∷ xs) (y ∷ ys) all = (all.0, all_zip-before_left f xs ys (all.1))

  pub all_zip-before_right : {Y : Type 0} (g : Y → B) (xs : List A) (ys : List Y) → AllZip R xs (map g ys)
      → AllZip (λ x y. R x (g y)) xs ys
  all_zip-before_right g [] [] all = tt
  all_zip-before_right g [] (y ∷ ys) all = absurd all
  all_zip-before_right g (x ∷ xs) [] all = absurd all
  all_zip-before_right g (x ∷ xs) (y ∷ ys) all = (all.0, all_zip-before_right g xs ys (all.1))
