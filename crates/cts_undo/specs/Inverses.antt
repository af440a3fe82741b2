-- What takes an edit of a list of sinks back.
use Rattle.std.specs.Prelude.{◌≡◌, ℕ, ◌≤◌, true, false, List, length, slice_get, Some}
use Rattle.std.specs.List.{insert}
use Rattle.cts_units.specs.declared.params.Sink.{Sink}
use Rattle.cts_edit.specs.declared.edit.Edit.{Edit}
use Rattle.cts_edit.specs.declared.edit.Edit.TheVariants as edit
use Rattle.cts_edit.specs.Edits.{has_id, without, changed}
use Rattle.cts_edit.specs.Decide.{id_of, is_known, is_unknown}
use Rattle.cts_undo.specs.declared.inverse.Inverse.{Inverse}
use Rattle.cts_undo.specs.declared.inverse.Inverse.TheVariants.{Remove, Insert, Restore}

-- the sinks after an inverse: one is taken out, one is put in at a place, or one is put in the place of the one of its id
abbrev pub taken_back : Inverse → List Sink → List Sink
taken_back (Remove id) sinks = without id sinks
taken_back (Insert at sink) sinks = insert sinks at sink
taken_back (Restore sink) sinks = changed sink.id (λ _. sink) sinks

-- An edit may meet these sinks: it adds no id that is there, and names none that isn't.
pub record Meets (edit : Edit) (sinks : List Sink) : Type 0 where
  pub known : is_known (has_id (id_of edit) sinks) edit ≡ false
  pub unknown : is_unknown (has_id (id_of edit) sinks) edit ≡ false

-- an inverse finds the sink that it names, or the place in the list for one that isn't there
abbrev pub Fits : Inverse → List Sink → Type 0
Fits (Remove id) sinks = has_id id sinks ≡ true
Fits (Insert at sink) sinks = (at ≤ length sinks) × (has_id sink.id sinks ≡ false)
Fits (Restore sink) sinks = has_id sink.id sinks ≡ true

-- a sink of this id has this place
pub record StandsAt (sinks : List Sink) (id place : ℕ) : Type 0 where
  pub sink : Sink
  pub here : slice_get sinks place ≡ Some sink
  pub same : sink.id ≡ id

-- the sink that an edit names has this place; one that is added has none yet
abbrev pub IsPlaceOf : Edit → List Sink → ℕ → Type 0
IsPlaceOf (edit.Add id x y c) sinks place = has_id id sinks ≡ false
IsPlaceOf (edit.Remove id) sinks place = StandsAt sinks id place
IsPlaceOf (edit.Move id x y) sinks place = StandsAt sinks id place
IsPlaceOf (edit.SetCap id c) sinks place = StandsAt sinks id place

-- a sink of this id stands at a place, and the inverse is made of both
abbrev Restores : List Sink → ℕ → Inverse → (ℕ → Sink → Inverse) → Type 0
Restores sinks id inverse made =
    (place : ℕ) × (sink : Sink) × (slice_get sinks place ≡ Some sink) × (sink.id ≡ id) × (inverse ≡ made place sink)

-- what takes an edit of these sinks back: a sink that was added is removed, one that was removed is put in where it stood, and
-- one that was changed is put in the place of what it became
abbrev pub IsInverse : List Sink → Edit → Inverse → Type 0
IsInverse sinks (edit.Add id x y c) inverse = inverse ≡ Remove id
IsInverse sinks (edit.Remove id) inverse = Restores sinks id inverse (λ place sink. Insert place sink)
IsInverse sinks (edit.Move id x y) inverse = Restores sinks id inverse (λ place sink. Restore sink)
IsInverse sinks (edit.SetCap id c) inverse = Restores sinks id inverse (λ place sink. Restore sink)
