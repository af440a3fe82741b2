-- Pins that rise along an axis: one more of them, and all of a list.
use Rattle.std.proofs.Common.{◌≡◌, ◌≢◌, ℕ, ◌+◌, ◌-◌, ◌<◌, ◌⊎◌, inl, inr, Bool, true, false, List, [], ◌∷◌, ◌++◌, length, get_or, Contains, sym, subst, arith}
use Rattle.std.specs.List.Sorted.{IsSortedBy}
use Rattle.std.proofs.lemmas.Bool.{cases_eq}
use Rattle.std.proofs.lemmas.List.Elements.{All-nil, All-push}
use Rattle.std.proofs.lemmas.List.Quantifiers.{all_pairs_push}
use Rattle.cts_topo.specs.declared.pin.Pin.{Pin}
use Rattle.cts_topo.specs.Topology.{is_before}
use Rattle.cts_topo.proofs.Orders.{pins_weak, is_before-trans}
use Rattle.cts_topo.proofs.Shuffles.{Shuffled}
use Rattle.cts_topo.specs.Rising.{Rises, IsNext}
use Rattle.cts_topo.proofs.Picked.{shuffled_of_picked}

pub rises_none : (wide : Bool) (pins some : List Pin) → some ≡ [] → Rises wide pins some
rises_none wide pins some e =
    subst (Rises wide pins) (sym e) (record { inside = All-nil (Contains pins); rising = λ i j d less within. absurd (omega arith) })

module _ (wide : Bool) where
  -- all of them come before what comes behind the last one
  all_before : (pins some : List Pin) (p : Pin) → Rises wide pins some → IsNext wide some p
      → (k : ℕ) (d : Pin) → k < length some → is_before wide (get_or some k d) p ≡ true
  all_before pins some p r next k d within = cases (split k)
    where
      split : (i : ℕ) → (i + 1 ≡ length some) ⊎ (i + 1 ≢ length some)
      split i = cases_eq (i + 1) (length some)

      cases : ((k + 1 ≡ length some) ⊎ (k + 1 ≢ length some)) → is_before wide (get_or some k d) p ≡ true
      cases (inl e) =
          let last : length some - 1 ≡ k = omega arith in
          subst (λ i. is_before wide (get_or some i d) p ≡ true) last (next d (omega arith))
      cases (inr e) =
          is_before-trans wide (get_or some k d) (get_or some (length some - 1) d) p
          (r.rising k (length some - 1) d (omega arith) (omega arith)) (next d (omega arith))

  -- one more, behind the last one that a slice shows
  pub rises_more : (pins some shown new : List Pin) (p : Pin) → Rises wide pins some → shown ≡ some → Contains pins p
      → IsNext wide shown p → new ≡ some ++ p ∷ [] → Rises wide pins new
  rises_more pins some shown new p r is within next e =
      subst (Rises wide pins) (sym e) (record {
        inside = All-push (Contains pins) some p r.inside within;
        rising = all_pairs_push (λ q r. is_before wide q r ≡ true) some p r.rising
            (all_before pins some p r (subst (λ qs. IsNext wide qs p) is next));
      })

  not_itself : (p q : Pin) → is_before wide p q ≡ true → p ≢ q
  not_itself p q h e =
      let turned : is_before wide q p ≡ true = subst (λ r. is_before wide r p ≡ true) e (subst (λ r. is_before wide p r ≡ true) (sym e) h) in
      let other : is_before wide q p ≡ false = (pins_weak wide).one_way p q h in
      cc

  -- as many of them as the list has are all of its pins
  pub rises_all : (pins some : List Pin) → Rises wide pins some → length some ≡ length pins → Shuffled pins some
  rises_all pins some r e =
      shuffled_of_picked some pins (λ i j d less within. not_itself _ _ (r.rising i j d less within)) r.inside e

  pub rises_sorted : (pins some : List Pin) → Rises wide pins some → IsSortedBy (is_before wide) some
  rises_sorted pins some r = λ k d low within. (pins_weak wide).one_way _ _ (r.rising k (k + 1) d (omega arith) within)
