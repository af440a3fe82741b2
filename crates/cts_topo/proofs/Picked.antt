-- As many different items of a list as it has are all of its items.
use Rattle.std.proofs.Common.{◌≡◌, ◌≢◌, ℕ, zero, suc, ◌<◌, ◌⊎◌, inl, inr, List, [], ◌∷◌, length, get_or, All, AllPairs, Contains, subst, arith}
use Rattle.cts_topo.proofs.Shuffles.{Shuffled, same, skip, turn, chain, length-Shuffled}

module _ {X : Type 0} where
  -- an item of a list, by recursion
  abbrev IsIn : X → List X → Type 0
  IsIn x [] = ⊥
  IsIn x (y ∷ ys) = (y ≡ x) ⊎ IsIn x ys

  at_place : (x : X) (ys : List X) (k : ℕ) → k < length ys → get_or ys k x ≡ x → IsIn x ys
  at_place x [] k h e = absurd (omega arith)
  at_place x (y ∷ ys) zero h e = inl e
  at_place x (y ∷ ys) (suc k) h e = inr (at_place x ys k (omega arith) e)

  -- the items of a list but one
  record Others (x : X) (ys : List X) : Type 0 where
    others : List X
    order : Shuffled ys (x ∷ others)
    kept : (y : X) → x ≢ y → IsIn y ys → IsIn y others

  others_of : (x : X) (ys : List X) → IsIn x ys → Others x ys
  others_of x [] h = absurd h
  others_of x (y ∷ ys) (inl e) = record {
    others = ys;
    order = subst (λ z. Shuffled (y ∷ ys) (z ∷ ys)) e same;
    kept = λ z apart within. elim within [ inl f ↦ absurd (apart (cc)) | inr w ↦ w ];
  }
  others_of x (y ∷ ys) (inr h) =
      let o = others_of x ys h in
      record {
        others = y ∷ o.others;
        order = chain (skip o.order) turn;
        kept = λ z apart within. elim within [ inl f ↦ inl f | inr w ↦ inr (o.kept z apart w) ];
      }

  all_picked : (xs ys : List X) → AllPairs (λ a b. a ≢ b) xs → All (λ x. IsIn x ys) xs → length xs ≡ length ys
      → Shuffled ys xs
  all_picked [] [] apart within e = same
  all_picked [] (y ∷ ys) apart within e = absurd (omega arith)
  all_picked (x ∷ xs) ys apart within e =
      let o = others_of x ys (within 0 x (omega arith)) in
      chain o.order (skip (all_picked xs o.others
      (λ i j d less inside. apart (suc i) (suc j) d (omega arith) (omega arith))
      (λ k d inside. o.kept (get_or xs k d) (apart 0 (suc k) d (omega arith) (omega arith)) (within (suc k) d (omega arith)))
      (omega (arith, e, length-Shuffled o.order))))

  pub shuffled_of_picked : (xs ys : List X) → AllPairs (λ a b. a ≢ b) xs → All (Contains ys) xs → length xs ≡ length ys
      → Shuffled ys xs
  shuffled_of_picked xs ys apart within e =
      all_picked xs ys apart
      (λ k d inside. let w = within k d inside in at_place (get_or xs k d) ys w.0 (w.1) (w.2)) e
