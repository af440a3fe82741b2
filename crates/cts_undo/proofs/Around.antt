-- A list of sinks around the one of an id.
use Rattle.std.proofs.Common.{◌≡◌, ℕ, ◌+◌, ◌-◌, ◌<◌, ◌≤◌, true, false, cond, not, nat_eq, List, [], ◌∷◌, ◌++◌, length, take, drop, set, get_or, slice_get, Some, refl, sym, ap, ◌∙◌, subst, arith, length-append}
use Rattle.std.specs.List.{insert, remove}
use Rattle.std.proofs.lemmas.Bool.{or_parts, or_from, or_right, or_left, ne_eqb, eq-eqb}
use Rattle.std.proofs.lemmas.List.{take-append-drop, take_at, drop_at, set_at, drop_more, get_or-take, get_or-drop, get_or_default, length-take-le, length-drop, map-append, append-nil}
use Rattle.std.proofs.lemmas.List.Edits.{remove-append_right}
use Rattle.std.proofs.lemmas.List.Elements.{filter-append}
use Rattle.std.proofs.lemmas.List.Folds.{list_any_none, list_any-append}
use Rattle.std.proofs.lemmas.Option.{slice_get_within, get_or_from_slice_get}
use Rattle.cts_units.specs.declared.params.Sink.{Sink}
use Rattle.cts_units.specs.Ids.{HasDistinctIds}
use Rattle.cts_edit.specs.Edits.{has_id, without, changed}

-- what an edit leaves of sinks that don't have its id
pub without_none : (id : ℕ) (sinks : List Sink) → has_id id sinks ≡ false → without id sinks ≡ sinks
without_none id [] none = refl
without_none id (s ∷ sinks) none =
    let parts = or_parts (nat_eq s.id id) (has_id id sinks) none in
    rw parts.0 (ap (λ l. s ∷ l) (without_none id sinks parts.1))

pub changed_none : (id : ℕ) (f : Sink → Sink) (sinks : List Sink) → has_id id sinks ≡ false → changed id f sinks ≡ sinks
changed_none id f [] none = refl
changed_none id f (s ∷ sinks) none =
    let parts = or_parts (nat_eq s.id id) (has_id id sinks) none in
    rw parts.0 (ap (λ l. s ∷ l) (changed_none id f sinks parts.1))

-- the sink of an id, with those before and behind it, none of which has the id
pub record Around (id place : ℕ) (sink : Sink) (sinks : List Sink) : Type 0 where
  pub front : List Sink
  pub back : List Sink
  pub is : sinks ≡ front ++ sink ∷ back
  pub place_is : length front ≡ place
  pub same : sink.id ≡ id
  pub none_before : has_id id front ≡ false
  pub none_behind : has_id id back ≡ false

pub around_of : (id place : ℕ) (s : Sink) (sinks : List Sink) → HasDistinctIds (λ t. t.id) sinks → slice_get sinks place ≡ Some s → s.id ≡ id
    → Around id place s sinks
around_of id place s sinks distinct here is_of =
    let within : place < length sinks = slice_get_within sinks place s here in
    let read : get_or sinks place s ≡ s = get_or_from_slice_get sinks place s s here in
    let same : (get_or sinks place s).id ≡ id = ap (λ t. t.id) read ∙ is_of in
    record {
      front = take place sinks;
      back = drop (place + 1) sinks;
      is = sym (take-append-drop place sinks) ∙ ap (λ l. take place sinks ++ l) (drop_more sinks place s within ∙ ap (λ t. t ∷ drop (place + 1) sinks) read);
      place_is = length-take-le place sinks (omega arith);
      same = is_of;
      none_before = list_any_none (λ t. nat_eq t.id id) (take place sinks) (λ k d inside.
          let early : k < place = (let n = length-take-le place sinks (omega arith) in omega arith) in
          ne_eqb (get_or (take place sinks) k d).id id (λ one.
          distinct k place s early within
          (ap (λ t. t.id) (get_or_default sinks k s d (omega arith) ∙ sym (get_or-take place sinks k d early)) ∙ one ∙ sym same)));
      none_behind = list_any_none (λ t. nat_eq t.id id) (drop (place + 1) sinks) (λ k d inside.
          let late : place + 1 + k < length sinks = omega (arith, length-drop (place + 1) sinks) in
          ne_eqb (get_or (drop (place + 1) sinks) k d).id id (λ one.
          distinct place (place + 1 + k) s (omega arith) late
          (same ∙ sym one ∙ ap (λ t. t.id) (get_or-drop (place + 1) sinks k d ∙ get_or_default sinks (place + 1 + k) d s late))));
    }

module _ (id place : ℕ) (s : Sink) (sinks : List Sink) (around : Around id place s sinks) where
  -- it is taken out
  pub without_around : without id sinks ≡ around.front ++ around.back
  without_around =
      ap (without id) around.is ∙ filter-append (λ t. not (nat_eq t.id id)) around.front (s ∷ around.back)
      ∙ rw (without_none id around.front around.none_before, eq-eqb s.id id around.same) (ap (λ l. around.front ++ l) (without_none id around.back around.none_behind))

  -- it is changed
  pub changed_around : (f : Sink → Sink) → changed id f sinks ≡ around.front ++ f s ∷ around.back
  changed_around f =
      ap (changed id f) around.is ∙ map-append {A = Sink} {B = Sink} (λ t. cond (nat_eq t.id id) (f t) t) around.front (s ∷ around.back)
      ∙ rw (changed_none id f around.front around.none_before, eq-eqb s.id id around.same) (ap (λ l. around.front ++ f s ∷ l) (changed_none id f around.back around.none_behind))

  -- the list without the place
  pub remove_around : remove sinks place ≡ around.front ++ around.back
  remove_around =
      ap (λ l. remove l place) around.is ∙ remove-append_right around.front (s ∷ around.back) place place around.place_is (omega arith)
      ∙ ap (λ n. around.front ++ remove (s ∷ around.back) n) (let none : place - place ≡ 0 = omega arith in none)

  -- another sink at the place
  pub set_around : (t : Sink) → set sinks place t ≡ around.front ++ t ∷ around.back
  set_around t = ap (λ l. set l place t) around.is ∙ set_at around.front s around.back t place around.place_is

  -- it is put in again
  insert_around : insert (around.front ++ around.back) place s ≡ sinks
  insert_around =
      ap (λ l. l ++ s ∷ drop place (around.front ++ around.back)) (take_at around.front around.back place around.place_is)
      ∙ ap (λ l. around.front ++ s ∷ l) (drop_at around.front around.back place around.place_is) ∙ sym around.is

  within_around : place ≤ length (around.front ++ around.back)
  within_around = omega (arith, around.place_is, length-append around.front around.back)

  -- and no other sink has the id
  pub none_left : has_id id (around.front ++ around.back) ≡ false
  none_left =
      list_any-append (λ t. nat_eq t.id id) around.front around.back ∙ or_from (has_id id around.front) (has_id id around.back) around.none_before around.none_behind

  pub removed_back : insert (without id sinks) place s ≡ sinks
  removed_back = ap (λ l. insert l place s) without_around ∙ insert_around

  pub removed_fits : (place ≤ length (without id sinks)) × (has_id s.id (without id sinks) ≡ false)
  removed_fits = subst (λ l. (place ≤ length l) × (has_id s.id l ≡ false)) (sym without_around) (within_around, ap (λ i. has_id i (around.front ++ around.back)) around.same ∙ none_left)

-- the sink of an id is put back after a change that keeps the id
pub restored : (id place : ℕ) (s : Sink) (sinks : List Sink) → Around id place s sinks → (f : Sink → Sink) → (f s).id ≡ s.id
    → changed s.id (λ _. s) (changed id f sinks) ≡ sinks
restored id place s sinks around f keeps =
    let now : Around id place (f s) (around.front ++ f s ∷ around.back) = record {
      front = around.front;
      back = around.back;
      is = refl;
      place_is = around.place_is;
      same = keeps ∙ around.same;
      none_before = around.none_before;
      none_behind = around.none_behind;
    } in
    ap (changed s.id (λ _. s)) (changed_around id place s sinks around f)
    ∙ ap (λ i. changed i (λ _. s) (around.front ++ f s ∷ around.back)) around.same
    ∙ changed_around id place (f s) (around.front ++ f s ∷ around.back) now (λ _. s) ∙ sym around.is

-- and it is there after the change
pub there_still : (id place : ℕ) (s : Sink) (sinks : List Sink) → Around id place s sinks → (f : Sink → Sink) → (f s).id ≡ s.id
    → has_id s.id (changed id f sinks) ≡ true
there_still id place s sinks around f keeps =
    ap (has_id s.id) (changed_around id place s sinks around f)
    ∙ list_any-append (λ t. nat_eq t.id s.id) around.front (f s ∷ around.back)
    ∙ or_right (has_id s.id around.front) _
    (or_left (nat_eq (f s).id s.id) (has_id s.id around.back) (eq-eqb (f s).id s.id keeps))

-- an added sink is taken out again
pub added_back : (s : Sink) (sinks : List Sink) → has_id s.id sinks ≡ false → without s.id (sinks ++ s ∷ []) ≡ sinks
added_back s sinks new =
    filter-append (λ t. not (nat_eq t.id s.id)) sinks (s ∷ []) ∙ rw (without_none s.id sinks new, eq-eqb s.id s.id refl) (append-nil sinks)
