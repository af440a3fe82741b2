-- What it does to a shape and its numbers that one capacitance changes.
use Rattle.std.proofs.Common.{◌≡◌, ◌≢◌, ℕ, zero, suc, ◌+◌, List, [], ◌∷◌, set, slice_get, Some, refl, sym, ap, arith}
use Rattle.std.proofs.lemmas.Option.{slice_get_within}
use Rattle.std.proofs.lemmas.List.{length-set}
use Rattle.cts_units.specs.declared.params.Sink.{Sink}
use Rattle.cts_topo.specs.Topology.{pin_of, pins_from, division, topology_of, shape_of}
use Rattle.cts_topo.proofs.Whole.{shape_is_over, shapes_are_divided_lem, shapes_are_shallow_lem}
use Rattle.cts_postorder.specs.BinaryTree.{labels}
use Rattle.cts_memo.specs.Laws.{DifferAt, OneCapMissesSixteen, with_cap}
use Rattle.cts_memo.proofs.Missing.{change_misses}

-- the pins over the sinks are the same
pins_same : (place : ℕ) (sinks : List Sink) (s : ℕ) (sink : Sink) (cap : ℕ) → slice_get sinks s ≡ Some sink
    → pins_from place (with_cap sinks s sink cap) ≡ pins_from place sinks
pins_same place [] s sink cap at = cc
pins_same place (x ∷ sinks) zero sink cap at =
    let same : x ≡ sink = cc in ap (λ (y : Sink). pin_of y place ∷ pins_from (place + 1) sinks) (sym same)
pins_same place (x ∷ sinks) (suc s) sink cap at = ap (λ ps. pin_of x place ∷ ps) (pins_same (place + 1) sinks s sink cap at)

pub shape_same : (sinks : List Sink) (s : ℕ) (sink : Sink) (cap : ℕ) → slice_get sinks s ≡ Some sink
    → shape_of (with_cap sinks s sink cap) ≡ shape_of sinks
unfolding shape_of topology_of
shape_same sinks s sink cap at =
    λ k. labels (division (length-set sinks s (record sink { cap = cap }) k) 0 (pins_same 0 sinks s sink cap at k))

set_others : {A : Type 0} (xs : List A) (s i : ℕ) (x : A) → i ≢ s → slice_get (set xs s x) i ≡ slice_get xs i
set_others [] s i x differ = refl
set_others (y ∷ xs) zero zero x differ = absurd (differ refl)
set_others (y ∷ xs) zero (suc i) x differ = refl
set_others (y ∷ xs) (suc s) zero x differ = refl
set_others (y ∷ xs) (suc s) (suc i) x differ = set_others xs s i x (λ same. differ (ap suc same))

pub cap_misses : OneCapMissesSixteen
cap_misses seen sinks s sink cap are at known =
    let differ : DifferAt s sinks (with_cap sinks s sink cap) =
    record { place = slice_get_within sinks s sink at; others = λ i other. set_others sinks s i (record sink { cap = cap }) other } in
    let divided = shapes_are_divided_lem sinks are in
    let shallow = shapes_are_shallow_lem sinks are in (
      shape_same sinks s sink cap at,
      omega (
        arith,
        change_misses seen sinks (with_cap sinks s sink cap) s (shape_of sinks) (topology_of sinks) (shape_is_over sinks are) (divided.0) differ known,
        shallow.1,
      ),
    )
