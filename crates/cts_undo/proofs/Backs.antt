-- What each kind of edit is taken back by.
use Rattle.std.proofs.Common.{◌≡◌, ℕ, ℤ, ◌≤◌, true, false, List, length, slice_get, Some, refl, sym, ap, ◌∙◌, subst}
use Rattle.std.specs.List.{insert}
use Rattle.cts_units.specs.declared.params.Sink.{Sink}
use Rattle.cts_units.specs.Ids.{HasDistinctIds}
use Rattle.cts_edit.specs.declared.edit.Edit.{Edit}
use Rattle.cts_edit.specs.declared.edit.Edit.TheVariants as edit
use Rattle.cts_edit.specs.Edits.{has_id, without, changed, moved_to, with_cap, applied}
use Rattle.cts_undo.specs.Inverses.{StandsAt, IsPlaceOf}
use Rattle.cts_undo.proofs.Around.{Around, around_of, removed_back, removed_fits, restored, there_still, added_back}

pub add_back : (e : Edit) (id : ℕ) (x y : ℤ) (c : ℕ) (sinks : List Sink) (place : ℕ) → e ≡ edit.Add id x y c → IsPlaceOf e sinks place
    → without id (applied e sinks) ≡ sinks
add_back e id x y c sinks place is new =
    subst (λ d. without id (applied d sinks) ≡ sinks) (sym is)
    (added_back (record { id = id; x = x; y = y; cap = c; offset = 0 }) sinks (subst (λ d. IsPlaceOf d sinks place) is new))

-- the sink that is read at a place stands there alone
found : (sinks : List Sink) (id place : ℕ) (s : Sink) → HasDistinctIds (λ t. t.id) sinks → StandsAt sinks id place → slice_get sinks place ≡ Some s
    → Around id place s sinks
found sinks id place s distinct stands read =
    let same : stands.sink ≡ s = (let here = stands.here in cc) in
    around_of id place s sinks distinct read (ap (λ t. t.id) (sym same) ∙ stands.same)

pub remove_back : (e : Edit) (id : ℕ) (sinks : List Sink) (place : ℕ) (s : Sink) → e ≡ edit.Remove id → HasDistinctIds (λ t. t.id) sinks
    → IsPlaceOf e sinks place → slice_get sinks place ≡ Some s
    → (insert (applied e sinks) place s ≡ sinks) × ((place ≤ length (applied e sinks)) × (has_id s.id (applied e sinks) ≡ false))
remove_back e id sinks place s is distinct stands read =
    let around = found sinks id place s distinct (subst (λ d. IsPlaceOf d sinks place) is stands) read in
    subst (λ d. (insert (applied d sinks) place s ≡ sinks) × ((place ≤ length (applied d sinks)) × (has_id s.id (applied d sinks) ≡ false))) (sym is)
    (removed_back id place s sinks around, removed_fits id place s sinks around)

pub move_back : (e : Edit) (id : ℕ) (x y : ℤ) (sinks : List Sink) (place : ℕ) (s : Sink) → e ≡ edit.Move id x y → HasDistinctIds (λ t. t.id) sinks
    → IsPlaceOf e sinks place → slice_get sinks place ≡ Some s
    → (changed s.id (λ _. s) (applied e sinks) ≡ sinks) × (has_id s.id (applied e sinks) ≡ true)
move_back e id x y sinks place s is distinct stands read =
    let around = found sinks id place s distinct (subst (λ d. IsPlaceOf d sinks place) is stands) read in
    subst (λ d. (changed s.id (λ _. s) (applied d sinks) ≡ sinks) × (has_id s.id (applied d sinks) ≡ true)) (sym is)
    (restored id place s sinks around (moved_to x y) refl, there_still id place s sinks around (moved_to x y) refl)

pub cap_back : (e : Edit) (id c : ℕ) (sinks : List Sink) (place : ℕ) (s : Sink) → e ≡ edit.SetCap id c → HasDistinctIds (λ t. t.id) sinks
    → IsPlaceOf e sinks place → slice_get sinks place ≡ Some s
    → (changed s.id (λ _. s) (applied e sinks) ≡ sinks) × (has_id s.id (applied e sinks) ≡ true)
cap_back e id c sinks place s is distinct stands read =
    let around = found sinks id place s distinct (subst (λ d. IsPlaceOf d sinks place) is stands) read in
    subst (λ d. (changed s.id (λ _. s) (applied d sinks) ≡ sinks) × (has_id s.id (applied d sinks) ≡ true)) (sym is)
    (restored id place s sinks around (with_cap c) refl, there_still id place s sinks around (with_cap c) refl)
