-- The pins of a list of sinks.
use Rattle.std.proofs.Common.{◌≡◌, ◌≢◌, ℕ, suc, ◌+◌, ◌<◌, List, [], ◌∷◌, ◌++◌, take, length, get_or, refl, sym, ap, ◌∙◌, arith, add-zero}
use Rattle.std.proofs.lemmas.List.{take_more, length-take-le}
use Rattle.std.specs.List.{AllByRecursion}
use Rattle.cts_units.specs.declared.params.Sink.{Sink}
use Rattle.cts_units.specs.Ids.{HasDistinctIds}
use Rattle.cts_topo.specs.declared.pin.Pin.{Pin}
use Rattle.cts_topo.proofs.Apart.{AreApart, ApartByRecursion, apart_by_recursion}
use Rattle.cts_topo.specs.Topology.{pin_of, pins_from}

pub pins_from-push : (place : ℕ) (sinks : List Sink) (s : Sink)
    → pins_from place (sinks ++ s ∷ []) ≡ pins_from place sinks ++ pin_of s (place + length sinks) ∷ []
pins_from-push place [] s = ap (λ i. pin_of s i ∷ []) (sym (add-zero place))
pins_from-push place (t ∷ sinks) s =
    let count : place + 1 + length sinks ≡ place + suc (length sinks) = omega arith in
    ap (λ ps. pin_of t place ∷ ps)
    (pins_from-push (place + 1) sinks s ∙ ap (λ i. pins_from (place + 1) sinks ++ pin_of s i ∷ []) count)

pub pins_from_more : (sinks : List Sink) (i : ℕ) (d : Sink) → i < length sinks
    → pins_from 0 (take (i + 1) sinks) ≡ pins_from 0 (take i sinks) ++ pin_of (get_or sinks i d) i ∷ []
pins_from_more sinks i d h =
    let place : 0 + length (take i sinks) ≡ i = omega (arith, length-take-le i sinks (omega arith)) in
    ap (pins_from 0) (take_more sinks i d h) ∙ pins_from-push 0 (take i sinks) (get_or sinks i d)
    ∙ ap (λ n. pins_from 0 (take i sinks) ++ pin_of (get_or sinks i d) n ∷ []) place

pub length-pins_from : (place : ℕ) (sinks : List Sink) → length (pins_from place sinks) ≡ length sinks
length-pins_from place [] = refl
length-pins_from place (s ∷ sinks) = ap suc (length-pins_from (place + 1) sinks)

-- pins of other sinks than the one with this id
other_pins : (id place : ℕ) (sinks : List Sink) → ((j : ℕ) (d : Sink) → j < length sinks → id ≢ (get_or sinks j d).id)
    → AllByRecursion (λ (q : Pin). id ≢ q.id) (pins_from place sinks)
other_pins id place [] h = tt
other_pins id place (s ∷ sinks) h =
    (h 0 s (omega arith), other_pins id (place + 1) sinks (λ j d w. h (suc j) d (omega arith)))

apart_from : (place : ℕ) (sinks : List Sink) → HasDistinctIds (λ (s : Sink). s.id) sinks → ApartByRecursion (pins_from place sinks)
apart_from place [] h = tt
apart_from place (s ∷ sinks) h = (
  other_pins s.id (place + 1) sinks (λ j d w. h 0 (suc j) d (omega arith) (omega arith)),
  apart_from (place + 1) sinks (λ i j d less within. h (suc i) (suc j) d (omega arith) (omega arith)),
)

-- what is distinct in the sinks is distinct in the pins
pub distinct_pins : (place : ℕ) (sinks : List Sink) → HasDistinctIds (λ (s : Sink). s.id) sinks → AreApart (pins_from place sinks)
distinct_pins place sinks h = apart_by_recursion (pins_from place sinks) (apart_from place sinks h)
