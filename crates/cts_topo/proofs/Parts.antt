-- The two parts of a list of pins: of any order of it, and of one that is sorted.
use Rattle.std.proofs.Common.{◌≡◌, ◌≢◌, ℕ, suc, ◌+◌, ◌-◌, ◌*◌, ◌<◌, ◌≤◌, Bool, true, false, cond, not, nat_lt, List, [], ◌∷◌, take, drop, length, get_or, filter, count_by, IsSortedBy, refl, sym, ap, subst, ◌∙◌, arith, zero-add}
use Rattle.std.specs.List.{AllByRecursion}
use Rattle.std.proofs.lemmas.List.Elements.{filter_agree}
use Rattle.cts_topo.specs.declared.pin.Pin.{Pin}
use Rattle.cts_topo.proofs.Apart.{AreApart, apart_tail, first_apart}
use Rattle.cts_topo.specs.Topology.{is_before, is_wide, is_early, left_size, left_part, right_part}
use Rattle.cts_topo.proofs.Shuffles.{Shuffled, length-Shuffled, sum_by-Shuffled, filter-Shuffled}
use Rattle.cts_topo.proofs.Orders.{pins_weak, is_before-trans, ids_of_ties}
use Rattle.cts_topo.proofs.Ranks.{Rises, rank_of, split_by_rank}
use Rattle.cts_topo.proofs.Extents.{is_wide-Shuffled}

-- pins with different ids: one is before the other
pub one_before : (wide : Bool) (p q : Pin) → q.id ≢ p.id → is_before wide q p ≡ false → is_before wide p q ≡ true
one_before wide p q apart h = cases (is_before wide p q) refl
  where
    cases : (b : Bool) → is_before wide p q ≡ b → is_before wide p q ≡ true
    cases true e = e
    cases false e = absurd (apart (sym (ids_of_ties wide p q e h)))

pub before_all : (wide : Bool) (p q : Pin) (ps : List Pin) → is_before wide p q ≡ true
    → AllByRecursion (λ r. is_before wide q r ≡ true) ps → AllByRecursion (λ r. is_before wide p r ≡ true) ps
before_all wide p q [] h all = tt
before_all wide p q (r ∷ ps) h all = (is_before-trans wide p q r h (all.0), before_all wide p q ps h (all.1))

-- what is sorted, with distinct ids, rises strictly
pub rises_of : (wide : Bool) (ps : List Pin) → IsSortedBy (is_before wide) ps → AreApart ps
    → Rises (is_before wide) ps
unfolding Rises
rises_of wide [] sorted h = tt
rises_of wide (p ∷ []) sorted h = (tt, tt)
rises_of wide (p ∷ q ∷ ps) sorted h =
    let apart : AllByRecursion (λ r. r.id ≢ p.id) (q ∷ ps) = first_apart p (q ∷ ps) h in
    let first : is_before wide p q ≡ true =
    one_before wide p q (apart.0) (sorted 0 p (omega arith) (omega arith)) in
    let rest : Rises (is_before wide) (q ∷ ps) =
    rises_of wide (q ∷ ps)
    (λ k d u w. let step : suc k + 1 ≡ suc (k + 1) = omega arith in
    ap (λ i. is_before wide (get_or (p ∷ q ∷ ps) i d) (get_or (q ∷ ps) k d)) (sym step)
    ∙ sorted (suc k) d (omega arith) (omega arith))
    (apart_tail p (q ∷ ps) h) in
    ((first, before_all wide p q ps first (rest.0)), rest)

-- half of a count, rounded up, and what is left
pub left_size_le : (n : ℕ) → left_size n ≤ n
unfolding left_size
left_size_le n = omega arith

pub left_size_pos : (n : ℕ) → 0 < n → 0 < left_size n
unfolding left_size
left_size_pos n h = omega arith

pub left_size_lt : (n : ℕ) → 2 ≤ n → left_size n < n
unfolding left_size
left_size_lt n h = omega arith

pub left_size_half : (n m : ℕ) → n ≤ 2 * m → (left_size n ≤ m) × (n - left_size n ≤ m)
unfolding left_size
left_size_half n m h = (omega arith, omega arith)

-- the parts of pins that rise are the front and the rest
pub parts_of_rising : (ps : List Pin) → Rises (is_before (is_wide ps)) ps
    → (left_part ps ≡ take (left_size (length ps)) ps) × (right_part ps ≡ drop (left_size (length ps)) ps)
unfolding left_part right_part is_early
parts_of_rising ps rises =
    let wide : Bool = is_wide ps in
    split_by_rank (λ p. count_by (λ q. is_before wide q p) ps) (left_size (length ps)) (left_size (length ps)) 0 ps (omega arith)
    (λ i d h. rank_of (is_before wide) (pins_weak wide).one_way ps i d rises h ∙ sym (zero-add i))

is_early-Shuffled : {ps qs : List Pin} → Shuffled ps qs → (p : Pin) → is_early ps p ≡ is_early qs p
unfolding is_early
is_early-Shuffled {ps} {qs} s p =
    ap (λ w. nat_lt (count_by (λ q. is_before w q p) ps) (left_size (length ps))) (is_wide-Shuffled s)
    ∙ ap (λ n. nat_lt n (left_size (length ps))) (sum_by-Shuffled (λ q. cond (is_before (is_wide qs) q p) 1 0) s)
    ∙ ap (λ n. nat_lt (count_by (λ q. is_before (is_wide qs) q p) qs) (left_size n)) (length-Shuffled s)

-- the parts of another order are other orders of the parts
pub left_part-Shuffled : {ps qs : List Pin} → Shuffled ps qs → Shuffled (left_part ps) (left_part qs)
unfolding left_part
left_part-Shuffled {ps} {qs} s =
    subst (Shuffled (filter (is_early ps) ps)) (filter_agree (is_early ps) (is_early qs) (is_early-Shuffled s) qs)
    (filter-Shuffled (is_early ps) s)

pub right_part-Shuffled : {ps qs : List Pin} → Shuffled ps qs → Shuffled (right_part ps) (right_part qs)
unfolding right_part
right_part-Shuffled {ps} {qs} s =
    subst (Shuffled (filter (λ p. not (is_early ps p)) ps))
    (filter_agree (λ p. not (is_early ps p)) (λ p. not (is_early qs p)) (λ p. ap not (is_early-Shuffled s p)) qs)
    (filter-Shuffled (λ p. not (is_early ps p)) s)

-- so, where the pins are sorted along their axis, the parts are the two halves
pub parts_of_sorted : (ps qs : List Pin) → Shuffled ps qs → Rises (is_before (is_wide ps)) qs
    → Shuffled (left_part ps) (take (left_size (length ps)) qs) × Shuffled (right_part ps) (drop (left_size (length ps)) qs)
parts_of_sorted ps qs s rises =
    let axis : is_wide ps ≡ is_wide qs = is_wide-Shuffled s in
    let long : length qs ≡ length ps = sym (length-Shuffled s) in
    let halves = parts_of_rising qs (subst (λ w. Rises (is_before w) qs) axis rises) in (
      subst (Shuffled (left_part ps)) (halves.0 ∙ ap (λ n. take (left_size n) qs) long) (left_part-Shuffled s),
      subst (Shuffled (right_part ps)) (halves.1 ∙ ap (λ n. drop (left_size n) qs) long) (right_part-Shuffled s),
    )
