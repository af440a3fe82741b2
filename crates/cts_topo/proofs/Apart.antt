-- Pins with distinct ids: of a front, of the rest, and in another order.
use Rattle.std.proofs.Common.{◌≢◌, ℕ, zero, suc, ◌<◌, List, [], ◌∷◌, take, drop, length, get_or, sym, arith}
use Rattle.std.specs.List.{AllByRecursion}
use Rattle.cts_units.specs.Ids.{HasDistinctIds}
use Rattle.cts_topo.specs.declared.pin.Pin.{Pin}
use Rattle.cts_topo.proofs.Shuffles.{Shuffled, same, skip, turn, chain}

abbrev pub AreApart : List Pin → Type 0
AreApart pins = HasDistinctIds (λ (p : Pin). p.id) pins

-- the same by recursion: the first pin is apart from the rest, and these are apart
abbrev pub ApartByRecursion : List Pin → Type 0
ApartByRecursion [] = Unit {0}
ApartByRecursion (p ∷ ps) = AllByRecursion (λ (q : Pin). p.id ≢ q.id) ps × ApartByRecursion ps

module _ (P : Pin → Type 0) where
  all_by_places : (ps : List Pin) → ((j : ℕ) (d : Pin) → j < length ps → P (get_or ps j d)) → AllByRecursion P ps
  all_by_places [] h = tt
  all_by_places (p ∷ ps) h = (h 0 p (omega arith), all_by_places ps (λ j d w. h (suc j) d (omega arith)))

  all_at : (ps : List Pin) → AllByRecursion P ps → (j : ℕ) (d : Pin) → j < length ps → P (get_or ps j d)
  all_at [] h j d w = absurd (omega arith)
  all_at (p ∷ ps) h zero d w = h.0
  all_at (p ∷ ps) h (suc j) d w = all_at ps h.1 j d (omega arith)

  all-Shuffled : {ps qs : List Pin} → Shuffled ps qs → AllByRecursion P ps → AllByRecursion P qs
  all-Shuffled same h = h
  all-Shuffled (skip s) h = (h.0, all-Shuffled s h.1)
  all-Shuffled turn h = (h.1.0, (h.0, h.1.1))
  all-Shuffled (chain s t) h = all-Shuffled t (all-Shuffled s h)

pub apart_tail : (p : Pin) (ps : List Pin) → AreApart (p ∷ ps) → AreApart ps
apart_tail p ps h = λ i j d less within. h (suc i) (suc j) d (omega arith) (omega arith)

first_from_rest : (p : Pin) (ps : List Pin) → AreApart (p ∷ ps) → AllByRecursion (λ (q : Pin). p.id ≢ q.id) ps
first_from_rest p ps h = all_by_places _ ps (λ j d w. h 0 (suc j) d (omega arith) (omega arith))

-- no later pin has the first one's id
pub first_apart : (p : Pin) (ps : List Pin) → AreApart (p ∷ ps) → AllByRecursion (λ (q : Pin). q.id ≢ p.id) ps
first_apart p ps h = all_by_places _ ps (λ j d w e. h 0 (suc j) d (omega arith) (omega arith) (sym e))

by_recursion : (ps : List Pin) → AreApart ps → ApartByRecursion ps
by_recursion [] h = tt
by_recursion (p ∷ ps) h = (first_from_rest p ps h, by_recursion ps (apart_tail p ps h))

pub apart_by_recursion : (ps : List Pin) → ApartByRecursion ps → AreApart ps
apart_by_recursion [] h i j d less within = absurd (omega arith)
apart_by_recursion (p ∷ ps) h zero zero d less within = absurd (omega arith)
apart_by_recursion (p ∷ ps) h zero (suc j) d less within = all_at _ ps h.0 j d (omega arith)
apart_by_recursion (p ∷ ps) h (suc i) zero d less within = absurd (omega arith)
apart_by_recursion (p ∷ ps) h (suc i) (suc j) d less within = apart_by_recursion ps h.1 i j d (omega arith) (omega arith)

shuffled : {ps qs : List Pin} → Shuffled ps qs → ApartByRecursion ps → ApartByRecursion qs
shuffled same h = h
shuffled (skip s) h = (all-Shuffled _ s h.0, shuffled s h.1)
shuffled turn h = ((λ e. h.0.0 (sym e), h.1.0), (h.0.1, h.1.1))
shuffled (chain s t) h = shuffled t (shuffled s h)

pub apart-Shuffled : {ps qs : List Pin} → Shuffled ps qs → AreApart ps → AreApart qs
apart-Shuffled {ps} {qs} s h = apart_by_recursion qs (shuffled s (by_recursion ps h))

all-take : (P : Pin → Type 0) (k : ℕ) (ps : List Pin) → AllByRecursion P ps → AllByRecursion P (take k ps)
all-take P zero ps h = tt
all-take P (suc k) [] h = tt
all-take P (suc k) (p ∷ ps) h = (h.0, all-take P k ps h.1)

front : (k : ℕ) (ps : List Pin) → ApartByRecursion ps → ApartByRecursion (take k ps)
front zero ps h = tt
front (suc k) [] h = tt
front (suc k) (p ∷ ps) h = (all-take _ k ps h.0, front k ps h.1)

pub apart-take : (ps : List Pin) (k : ℕ) → AreApart ps → AreApart (take k ps)
apart-take ps k h = apart_by_recursion (take k ps) (front k ps (by_recursion ps h))

pub apart-drop : (ps : List Pin) (k : ℕ) → AreApart ps → AreApart (drop k ps)
apart-drop ps zero h = h
apart-drop [] (suc k) h = h
apart-drop (p ∷ ps) (suc k) h = apart-drop ps k (apart_tail p ps h)
