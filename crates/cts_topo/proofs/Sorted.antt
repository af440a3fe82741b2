-- Pins with distinct ids have an order in which they rise strictly, by insertion. So the two parts of any list of such
-- pins have half of them, rounded up, and the rest.
use Rattle.std.proofs.Common.{◌≡◌, ◌≢◌, ℕ, ◌+◌, ◌≤◌, Bool, true, false, cond, List, [], ◌∷◌, length, refl, sym, ◌∙◌, arith, length-drop}
use Rattle.std.specs.List.{AllByRecursion}
use Rattle.std.proofs.lemmas.List.{length-take-le}
use Rattle.cts_topo.specs.declared.pin.Pin.{Pin}
use Rattle.cts_topo.proofs.Apart.{AreApart, apart_tail, first_apart, apart-Shuffled, apart-take, apart-drop}
use Rattle.cts_topo.specs.Topology.{is_before, is_wide, left_size, left_part, right_part}
use Rattle.cts_topo.proofs.Shuffles.{Shuffled, same, skip, turn, chain, turned_round, length-Shuffled}
use Rattle.cts_topo.proofs.Ranks.{Rises}
use Rattle.cts_topo.proofs.Parts.{one_before, before_all, left_size_le, parts_of_sorted}

-- the same pins in an order in which they rise strictly
pub record Sorting (wide : Bool) (ps : List Pin) : Type 0 where
  pub sorted : List Pin
  pub order : Shuffled ps sorted
  pub rises : Rises (is_before wide) sorted

module _ (wide : Bool) where
  place_in : Pin → List Pin → List Pin
  place_in p [] = p ∷ []
  place_in p (q ∷ qs) = cond (is_before wide p q) (p ∷ q ∷ qs) (q ∷ place_in p qs)

  place_in-Shuffled : (p : Pin) (qs : List Pin) → Shuffled (p ∷ qs) (place_in p qs)
  unfolding place_in
  place_in-Shuffled p [] = same
  place_in-Shuffled p (q ∷ qs) =
      elim (is_before wide p q) as (λ b. Shuffled (p ∷ q ∷ qs) (cond b (p ∷ q ∷ qs) (q ∷ place_in p qs))) [
        | true ↦ same
        | false ↦ chain turn (skip (place_in-Shuffled p qs))
      ]

  all_placed : (P : Pin → Type 0) (p : Pin) (qs : List Pin) → P p → AllByRecursion P qs → AllByRecursion P (place_in p qs)
  unfolding place_in
  all_placed P p [] h all = (h, tt)
  all_placed P p (q ∷ qs) h all =
      elim (is_before wide p q) as (λ b. AllByRecursion P (cond b (p ∷ q ∷ qs) (q ∷ place_in p qs))) [
        | true ↦ (h, all)
        | false ↦ (all.0, all_placed P p qs h (all.1))
      ]

  place_in-Rises : (p : Pin) (qs : List Pin) → AllByRecursion (λ q. q.id ≢ p.id) qs → Rises (is_before wide) qs
      → Rises (is_before wide) (place_in p qs)
  unfolding place_in Rises
  place_in-Rises p [] apart rises = (tt, tt)
  place_in-Rises p (q ∷ qs) apart rises =
      elim (is_before wide p q)
      as (λ b. is_before wide p q ≡ b → Rises (is_before wide) (cond b (p ∷ q ∷ qs) (q ∷ place_in p qs))) [
        | true ↦ λ e. ((e, before_all wide p q qs e (rises.0)), rises)
        | false ↦ λ e.
            let first : is_before wide q p ≡ true = one_before wide q p (λ i. (apart.0) (sym i)) e in
            (all_placed (λ r. is_before wide q r ≡ true) p qs first (rises.0), place_in-Rises p qs (apart.1) (rises.1))
      ] refl

  pub sorting_of : (ps : List Pin) → AreApart ps → Sorting wide ps
  unfolding Rises
  sorting_of [] h = record { sorted = []; order = same; rises = tt }
  sorting_of (p ∷ ps) h =
      let s : Sorting wide ps = sorting_of ps (apart_tail p ps h) in
      record {
        sorted = place_in p s.sorted;
        order = chain (skip s.order) (place_in-Shuffled p s.sorted);
        rises = place_in-Rises p s.sorted (first_apart p s.sorted (apart-Shuffled (skip s.order) h)) s.rises;
      }

-- what is known of the parts of pins with distinct ids
pub record Halves (ps : List Pin) : Type 0 where
  pub left_long : length (left_part ps) ≡ left_size (length ps)
  pub right_long : length (right_part ps) + left_size (length ps) ≡ length ps
  pub left_distinct : AreApart (left_part ps)
  pub right_distinct : AreApart (right_part ps)

pub halves_of : (ps : List Pin) → AreApart ps → Halves ps
halves_of ps h =
    let s : Sorting (is_wide ps) ps = sorting_of (is_wide ps) ps h in
    let parts = parts_of_sorted ps s.sorted s.order s.rises in
    let half : ℕ = left_size (length ps) in
    let fits : half ≤ length s.sorted = omega (arith, left_size_le (length ps), length-Shuffled s.order) in
    let distinct : AreApart s.sorted = apart-Shuffled s.order h in
    record {
      left_long = length-Shuffled (parts.0) ∙ length-take-le half s.sorted fits;
      right_long = omega (arith, length-Shuffled (parts.1), length-drop half s.sorted, length-Shuffled s.order, fits);
      left_distinct = apart-Shuffled (turned_round (parts.0)) (apart-take s.sorted half distinct);
      right_distinct = apart-Shuffled (turned_round (parts.1)) (apart-drop s.sorted half distinct);
    }
