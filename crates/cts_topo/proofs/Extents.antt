-- The extent of a coordinate, by its greatest and its least value, which are the ends of a list that is sorted along it.
use Rattle.std.proofs.Common.{◌≡◌, ℕ, suc, ◌+◌, ◌-◌, ◌<◌, ◌≤◌, max, min, nat_le, Bool, true, false, Less, nat_cmp, is_lt, List, [], ◌∷◌, length, get_or, IsSortedBy, inl, inr, refl, sym, ap, ap₂, ◌∙◌, arith}
use Rattle.std.specs.Ordering.{ordering_then}
use Rattle.std.proofs.lemmas.Bool.{cases_lt}
use Rattle.std.proofs.lemmas.Bool.Decides.{nat_tests}
use Rattle.std.specs.List.{AllByRecursion}
use Rattle.cts_topo.specs.declared.pin.Pin.{Pin}
use Rattle.cts_topo.specs.Topology.{greatest, extent, is_wide, is_before}
use Rattle.cts_topo.proofs.Shuffles.{Shuffled, same, skip, turn, chain}

-- the order of the pins does not matter
pub greatest-Shuffled : (f : Pin → ℕ) {ps qs : List Pin} → Shuffled ps qs → greatest f ps ≡ greatest f qs
unfolding greatest
greatest-Shuffled f same = refl
greatest-Shuffled f (skip {x} s) = ap (max (f x)) (greatest-Shuffled f s)
greatest-Shuffled f (turn {x} {y} {xs}) = omega arith
greatest-Shuffled f (chain s t) = greatest-Shuffled f s ∙ greatest-Shuffled f t

pub greatest-agree : (f g : Pin → ℕ) → ((p : Pin) → f p ≡ g p) → (ps : List Pin) → greatest f ps ≡ greatest g ps
unfolding greatest
greatest-agree f g h [] = refl
greatest-agree f g h (p ∷ ps) = omega (arith, h p, greatest-agree f g h ps)

pub extent-Shuffled : (f : Pin → ℕ) {ps qs : List Pin} → Shuffled ps qs → extent f ps ≡ extent f qs
unfolding extent
extent-Shuffled f {ps} {qs} s =
    greatest-Shuffled (λ p. greatest (λ q. f p - f q) ps) s
    ∙ greatest-agree _ _ (λ p. greatest-Shuffled (λ q. f p - f q) s) qs

pub is_wide-Shuffled : {ps qs : List Pin} → Shuffled ps qs → is_wide ps ≡ is_wide qs
unfolding is_wide
is_wide-Shuffled s = rw (extent-Shuffled (λ p. p.y) s, extent-Shuffled (λ p. p.x) s) refl

-- the least value, and the limit where there is no pin
unfoldable pub least : ℕ → (Pin → ℕ) → List Pin → ℕ
least limit f [] = limit
least limit f (p ∷ ps) = min (f p) (least limit f ps)

-- of one pin, the greatest difference is that to the least value
greatest-less : (a limit : ℕ) (f : Pin → ℕ) (ps : List Pin) → a ≤ limit → greatest (λ q. a - f q) ps ≡ a - least limit f ps
unfolding greatest least
greatest-less a limit f [] h = omega arith
greatest-less a limit f (q ∷ ps) h = omega (arith, greatest-less a limit f ps h)

greatest-minus : (f : Pin → ℕ) (b : ℕ) (ps : List Pin) → greatest (λ p. f p - b) ps ≡ greatest f ps - b
unfolding greatest
greatest-minus f b [] = omega arith
greatest-minus f b (p ∷ ps) = omega (arith, greatest-minus f b ps)

greatest-agree_on : (f g : Pin → ℕ) (ps : List Pin) → AllByRecursion (λ p. f p ≡ g p) ps → greatest f ps ≡ greatest g ps
unfolding greatest
greatest-agree_on f g [] all = refl
greatest-agree_on f g (p ∷ ps) all = omega (arith, all.0, greatest-agree_on f g ps (all.1))

differences : (limit : ℕ) (f : Pin → ℕ) (qs ps : List Pin) → AllByRecursion (λ p. f p ≤ limit) ps
    → AllByRecursion (λ p. greatest (λ q. f p - f q) qs ≡ f p - least limit f qs) ps
differences limit f qs [] all = tt
differences limit f qs (p ∷ ps) all = (greatest-less (f p) limit f qs (all.0), differences limit f qs ps (all.1))

pub extent-is : (limit : ℕ) (f : Pin → ℕ) (ps : List Pin) → AllByRecursion (λ p. f p ≤ limit) ps
    → extent f ps ≡ greatest f ps - least limit f ps
unfolding extent
extent-is limit f ps all =
    greatest-agree_on _ _ ps (differences limit f ps ps all) ∙ greatest-minus f (least limit f ps) ps

-- the values of a list that never fall
unfoldable pub Ascends : (Pin → ℕ) → List Pin → Type 0
Ascends f [] = Unit {0}
Ascends f (p ∷ []) = Unit {0}
Ascends f (p ∷ q ∷ ps) = (f p ≤ f q) × Ascends f (q ∷ ps)

all_below : (limit : ℕ) (f : Pin → ℕ) (ps : List Pin) → greatest f ps ≤ limit → AllByRecursion (λ p. f p ≤ limit) ps
unfolding greatest
all_below limit f [] h = tt
all_below limit f (p ∷ ps) h = (omega arith, all_below limit f ps (omega arith))

greatest-last : (f : Pin → ℕ) (p d : Pin) (ps : List Pin) → Ascends f (p ∷ ps)
    → greatest f (p ∷ ps) ≡ f (get_or (p ∷ ps) (length ps) d)
unfolding greatest Ascends
greatest-last f p d [] up = omega arith
greatest-last f p d (q ∷ ps) up = omega (arith, greatest-last f q d ps (up.1), up.0)

above_bound : (limit bound : ℕ) (f : Pin → ℕ) (p : Pin) (ps : List Pin) → Ascends f (p ∷ ps) → bound ≤ limit → bound ≤ f p
    → bound ≤ least limit f (p ∷ ps)
unfolding least Ascends
above_bound limit bound f p [] up h low = omega arith
above_bound limit bound f p (q ∷ ps) up h low = omega (arith, low, above_bound limit bound f q ps (up.1) h (omega (arith, low, up.0)))

least-first : (limit : ℕ) (f : Pin → ℕ) (p : Pin) (ps : List Pin) → Ascends f (p ∷ ps) → f p ≤ limit
    → least limit f (p ∷ ps) ≡ f p
unfolding least
least-first limit f p ps up h = omega (arith, above_bound limit (f p) f p ps up h (omega arith))

-- so the extent is the difference of the last one and the first one
pub extent_sorted : (f : Pin → ℕ) (ps : List Pin) (last : ℕ) (d e : Pin) → Ascends f ps → last + 1 ≡ length ps
    → (extent f ps ≡ f (get_or ps last d) - f (get_or ps 0 e)) × (f (get_or ps 0 e) ≤ f (get_or ps last d))
unfolding greatest
extent_sorted f [] last d e up long = absurd (omega arith)
extent_sorted f (p ∷ ps) last d e up long =
    let limit : ℕ = greatest f (p ∷ ps) in
    let at : length ps ≡ last = omega arith in
    let own : f p ≤ limit = omega arith in
    let top : greatest f (p ∷ ps) ≡ f (get_or (p ∷ ps) last d) =
    greatest-last f p d ps up ∙ ap (λ n. f (get_or (p ∷ ps) n d)) at in (
      extent-is limit f (p ∷ ps) (all_below limit f (p ∷ ps) (omega arith))
          ∙ ap₂ (λ u v. u - v) top (least-first limit f p ps up own),
      omega (arith, top, own),
    )

-- the coordinate along an axis
abbrev pub along_axis : Bool → Pin → ℕ
along_axis true p = p.x
along_axis false p = p.y

less_first : (m n : ℕ) → m < n → nat_cmp m n ≡ Less
less_first m n h = grind (arith, nat_tests)

not_before : (wide : Bool) (q p : Pin) → is_before wide q p ≡ false → along_axis wide p ≤ along_axis wide q
not_before true q p h = elim (cases_lt q.x p.x) [
  | inr there ↦ there
  | inl less ↦
      let is : is_before true q p ≡ true =
      ap (λ o. is_lt (ordering_then (ordering_then o (nat_cmp q.y p.y)) (nat_cmp q.id p.id))) (less_first q.x p.x less) in
      cc
]
not_before false q p h = elim (cases_lt q.y p.y) [
  | inr there ↦ there
  | inl less ↦
      let is : is_before false q p ≡ true =
      ap (λ o. is_lt (ordering_then (ordering_then o (nat_cmp q.x p.x)) (nat_cmp q.id p.id))) (less_first q.y p.y less) in
      cc
]

-- pins sorted along an axis never fall along it
pub ascends_sorted : (wide : Bool) (ps : List Pin) → IsSortedBy (is_before wide) ps → Ascends (along_axis wide) ps
unfolding Ascends
ascends_sorted wide [] sorted = tt
ascends_sorted wide (p ∷ []) sorted = tt
ascends_sorted wide (p ∷ q ∷ ps) sorted = (
  not_before wide q p (sorted 0 p (omega arith) (omega arith)),
  ascends_sorted wide (q ∷ ps)
      (λ k d u w. let step : suc k + 1 ≡ suc (k + 1) = omega arith in
      ap (λ i. is_before wide (get_or (p ∷ q ∷ ps) i d) (get_or (q ∷ ps) k d)) (sym step)
      ∙ sorted (suc k) d (omega arith) (omega arith)),
)

pub ends_rise : (wide : Bool) (ps : List Pin) (last : ℕ) (d e : Pin) → IsSortedBy (is_before wide) ps → last + 1 ≡ length ps
    → along_axis wide (get_or ps 0 e) ≤ along_axis wide (get_or ps last d)
ends_rise wide ps last d e sorted long = (extent_sorted (along_axis wide) ps last d e (ascends_sorted wide ps sorted) long).1

-- the ends of one list of pins sorted along x, and of one sorted along y, tell the axis
pub ends_tell : (xs ys : List Pin) (last : ℕ) (d e f g : Pin) → IsSortedBy (is_before true) xs → IsSortedBy (is_before false) ys
    → Shuffled xs ys → last + 1 ≡ length xs → last + 1 ≡ length ys
    → is_wide xs ≡ nat_le ((get_or ys last f).y - (get_or ys 0 g).y) ((get_or xs last d).x - (get_or xs 0 e).x)
unfolding is_wide
ends_tell xs ys last d e f g x_order y_order items long same_long =
    let x = extent_sorted (λ p. p.x) xs last d e (ascends_sorted true xs x_order) long in
    let y = extent_sorted (λ p. p.y) ys last f g (ascends_sorted false ys y_order) same_long in
    ap₂ nat_le (extent-Shuffled (λ p. p.y) items ∙ y.0) (x.0)
