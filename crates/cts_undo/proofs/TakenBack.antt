-- Every edit that a list of sinks may meet has an inverse, which takes it back.
use Rattle.std.proofs.Common.{◌≡◌, ℕ, suc, Bool, true, false, not, ◌||◌, nat_eq, List, [], ◌∷◌, slice_get, Some, refl, sym, ap, subst, ◌∙◌}
use Rattle.std.proofs.lemmas.Bool.{eqb-true}
use Rattle.cts_units.specs.declared.params.Sink.{Sink}
use Rattle.cts_units.specs.Ids.{HasDistinctIds}
use Rattle.cts_edit.specs.declared.edit.Edit.{Edit}
use Rattle.cts_edit.specs.declared.edit.Edit.TheVariants as edit
use Rattle.cts_edit.specs.Edits.{has_id, applied}
use Rattle.cts_undo.specs.declared.inverse.Inverse.{Inverse}
use Rattle.cts_undo.specs.declared.inverse.Inverse.TheVariants.{Remove, Insert, Restore}
use Rattle.cts_undo.specs.Inverses.{IsInverse, Meets, StandsAt, taken_back}
use Rattle.cts_undo.specs.Laws.{EditsHaveInverses, InversesTakeBack}
use Rattle.cts_undo.proofs.Backs.{add_back, remove_back, move_back, cap_back}

-- a sink of an id that is there, with its place
record Found (id : ℕ) (sinks : List Sink) : Type 0 where
  place : ℕ
  sink : Sink
  here : slice_get sinks place ≡ Some sink
  same : sink.id ≡ id

not_false : (b : Bool) → not b ≡ false → b ≡ true
not_false true e = refl
not_false false e = absurd cc

found_first : (id : ℕ) (s : Sink) (sinks : List Sink) → (has_id id sinks ≡ true → Found id sinks) → (b : Bool) → nat_eq s.id id ≡ b
    → (b || has_id id sinks) ≡ true → Found id (s ∷ sinks)
found_first id s sinks later true e h = record { place = 0; sink = s; here = refl; same = eqb-true s.id id e }
found_first id s sinks later false e h =
    let rest = later h in
    record { place = suc rest.place; sink = rest.sink; here = rest.here; same = rest.same }

found : (id : ℕ) (sinks : List Sink) → has_id id sinks ≡ true → Found id sinks
found id [] h = absurd cc
found id (s ∷ sinks) h = found_first id s sinks (λ later. found id sinks later) (nat_eq s.id id) refl h

pub have_inverses : EditsHaveInverses
have_inverses sinks (edit.Add id x y c) meets = (Remove id, refl)
have_inverses sinks (edit.Remove id) meets =
    let f = found id sinks (not_false (has_id id sinks) meets.unknown) in
    (Insert f.place f.sink, (f.place, f.sink, f.here, f.same, refl))
have_inverses sinks (edit.Move id x y) meets =
    let f = found id sinks (not_false (has_id id sinks) meets.unknown) in
    (Restore f.sink, (f.place, f.sink, f.here, f.same, refl))
have_inverses sinks (edit.SetCap id c) meets =
    let f = found id sinks (not_false (has_id id sinks) meets.unknown) in
    (Restore f.sink, (f.place, f.sink, f.here, f.same, refl))

stands : (sinks : List Sink) (id place : ℕ) (s : Sink) → slice_get sinks place ≡ Some s → s.id ≡ id → StandsAt sinks id place
stands sinks id place s here same = record { sink = s; here = here; same = same }

pub take_back : InversesTakeBack
take_back sinks (edit.Add id x y c) inverse distinct meets is =
    subst (λ v. taken_back v (applied (edit.Add id x y c) sinks) ≡ sinks) (sym is)
    (add_back (edit.Add id x y c) id x y c sinks 0 refl meets.known)
take_back sinks (edit.Remove id) inverse distinct meets (place, s, here, same, is) =
    subst (λ v. taken_back v (applied (edit.Remove id) sinks) ≡ sinks) (sym is)
    (remove_back (edit.Remove id) id sinks place s refl distinct (stands sinks id place s here same) here).0
take_back sinks (edit.Move id x y) inverse distinct meets (place, s, here, same, is) =
    subst (λ v. taken_back v (applied (edit.Move id x y) sinks) ≡ sinks) (sym is)
    (move_back (edit.Move id x y) id x y sinks place s refl distinct (stands sinks id place s here same) here).0
take_back sinks (edit.SetCap id c) inverse distinct meets (place, s, here, same, is) =
    subst (λ v. taken_back v (applied (edit.SetCap id c) sinks) ≡ sinks) (sym is)
    (cap_back (edit.SetCap id c) id c sinks place s refl distinct (stands sinks id place s here same) here).0
