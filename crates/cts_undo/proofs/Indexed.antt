-- The ids of a list of sinks, after each change of the list and of the map beside it.
use Rattle.std.proofs.Common.{◌≡◌, ◌≢◌, ℕ, ◌+◌, ◌<◌, ◌⊎◌, Bool, true, false, cond, ◌||◌, nat_eq, List, [], ◌∷◌, ◌++◌, length, take, drop, set, get_or, slice_get, Option, Some, None, is_some, Result, Ok, Err, OnOk, OnErr, inl, inr, refl, sym, ap, ◌∙◌, subst, arith}
use Rattle.std.specs.List.{insert, remove}
use Rattle.std.specs.Ordering.{nat_cmp}
use Rattle.std.specs.BTreeMap.{BTreeMap, get, is_at, Updates, UpdatesBy, IsUnchanged}
use Rattle.std.proofs.lemmas.Bool.{ne_eqb, eq-eqb, cases_eq}
use Rattle.std.proofs.lemmas.Bool.Decides.{nat_tests}
use Rattle.std.specs.Map.{lookup}
use Rattle.std.proofs.lemmas.List.{take-append-drop, get_or_default}
use Rattle.std.proofs.lemmas.Option.{slice_get_within, slice_get_read}
use Rattle.std.proofs.lemmas.List.Folds.{list_any-append, list_any_more}
use Rattle.cts_num.specs.declared.error.NoMemory.{NoMemory}
use Rattle.cts_units.specs.declared.params.Sink.{Sink}
use Rattle.cts_units.specs.Ids.{HasDistinctIds}
use Rattle.cts_edit.specs.Edits.{has_id, without, changed}
use Rattle.cts_undo.specs.Inverses.{StandsAt}
use Rattle.cts_undo.specs.SinkList.{IsIndexed}
use Rattle.cts_undo.proofs.Around.{Around, around_of, none_left, without_around, changed_around, remove_around, set_around}

-- which key a number finds
at_is : (a b : ℕ) → is_at (nat_cmp a) b ≡ nat_eq a b
at_is a b = grind (arith, nat_tests)

-- whether a map has an id, after it was put in or taken out
some_cond : {A : Type 0} (b : Bool) (o p : Option A) → is_some (cond b o p) ≡ cond b (is_some o) (is_some p)
some_cond true o p = refl
some_cond false o p = refl

or_as_cond : (a b : Bool) → (a || b) ≡ cond a true b
or_as_cond true b = refl
or_as_cond false b = refl

or_third : (a b c : Bool) → (a || (b || c)) ≡ cond b true (a || c)
or_third true true c = refl
or_third true false c = refl
or_third false true c = refl
or_third false false c = refl

-- the ids of a list with one sink more
has_amid : (q : ℕ) (front back : List Sink) (s : Sink) → has_id q (front ++ s ∷ back) ≡ cond (nat_eq s.id q) true (has_id q (front ++ back))
has_amid q front back s =
    list_any-append (λ t. nat_eq t.id q) front (s ∷ back)
    ∙ or_third (has_id q front) (nat_eq s.id q) (has_id q back)
    ∙ ap (cond (nat_eq s.id q) true) (sym (list_any-append (λ t. nat_eq t.id q) front back))

pub none_indexed : (places : BTreeMap ℕ ℕ) → ((q : ℕ) → get nat_cmp places q ≡ None) → IsIndexed [] places
none_indexed places none = record { there = λ q. ap is_some (none q) }

pub insert_indexed : (sinks : List Sink) (places places' : BTreeMap ℕ ℕ) (place : ℕ) (s : Sink) → IsIndexed sinks places
    → Updates nat_cmp places places' s.id (Some place) → IsIndexed (insert sinks place s) places'
insert_indexed sinks places places' place s indexed updates = record {
  there = λ q.
      ap is_some (updates.0 q) ∙ some_cond (is_at (nat_cmp s.id) q) (Some place) (get nat_cmp places q)
      ∙ ap (λ b. cond b true (is_some (get nat_cmp places q))) (at_is s.id q)
      ∙ ap (cond (nat_eq s.id q) true) (indexed.there q ∙ ap (has_id q) (sym (take-append-drop place sinks)))
      ∙ sym (has_amid q (take place sinks) (drop place sinks) s);
}

-- the next sink of a list
pub next_indexed : (sinks : List Sink) (places places' : BTreeMap ℕ ℕ) (i : ℕ) (d : Sink) → i < length sinks → IsIndexed (take i sinks) places
    → Updates nat_cmp places places' (get_or sinks i d).id (Some i) → IsIndexed (take (i + 1) sinks) places'
next_indexed sinks places places' i d inside indexed updates = record {
  there = λ q.
      ap is_some (updates.0 q) ∙ some_cond (is_at (nat_cmp (get_or sinks i d).id) q) (Some i) (get nat_cmp places q)
      ∙ ap (λ b. cond b true (is_some (get nat_cmp places q))) (at_is (get_or sinks i d).id q)
      ∙ ap (cond (nat_eq (get_or sinks i d).id q) true) (indexed.there q)
      ∙ sym (or_last (has_id q (take i sinks)) (nat_eq (get_or sinks i d).id q))
      ∙ sym (list_any_more (λ t. nat_eq t.id q) sinks i d inside);
}
  where
    or_last : (a b : Bool) → (a || b) ≡ cond b true a
    or_last true true = refl
    or_last true false = refl
    or_last false true = refl
    or_last false false = refl

module _ (sinks : List Sink) (places : BTreeMap ℕ ℕ) (id place : ℕ) (indexed : IsIndexed sinks places) (distinct : HasDistinctIds (λ t. t.id) sinks) (stands : StandsAt sinks id place) where
  around : Around id place stands.sink sinks
  around = around_of id place stands.sink sinks distinct stands.here stands.same

  pub remove_indexed : (places' : BTreeMap ℕ ℕ) → UpdatesBy nat_cmp (nat_cmp id) places places' None → IsIndexed (remove sinks place) places'
  remove_indexed places' updates = record {
    there = λ q.
        ap is_some (updates.0 q) ∙ some_cond (is_at (nat_cmp id) q) None (get nat_cmp places q)
        ∙ ap (λ b. cond b false (is_some (get nat_cmp places q))) (at_is id q)
        ∙ ap (cond (nat_eq id q) false) (indexed.there q ∙ ap (has_id q) around.is ∙ has_amid q around.front around.back stands.sink)
        ∙ by_id q (cases_eq id q)
        ∙ ap (has_id q) (sym (remove_around id place stands.sink sinks around));
  }
    where
      by_id : (q : ℕ) → (id ≡ q) ⊎ (id ≢ q)
          → cond (nat_eq id q) false (cond (nat_eq stands.sink.id q) true (has_id q (around.front ++ around.back))) ≡ has_id q (around.front ++ around.back)
      by_id q (inl same) = rw (eq-eqb id q same) (sym (subst (λ i. has_id i (around.front ++ around.back) ≡ false) same (none_left id place stands.sink sinks around)))
      by_id q (inr other) = rw (ne_eqb id q other, ne_eqb stands.sink.id q (λ e. other (sym stands.same ∙ e))) refl

  -- another sink of the same id stands at the place
  pub write_indexed : (s : Sink) → s.id ≡ id → IsIndexed (set sinks place s) places
  write_indexed s same = record {
    there = λ q.
        indexed.there q ∙ ap (has_id q) around.is ∙ has_amid q around.front around.back stands.sink
        ∙ ap (λ i. cond (nat_eq i q) true (has_id q (around.front ++ around.back))) (stands.same ∙ sym same)
        ∙ sym (has_amid q around.front around.back s) ∙ ap (has_id q) (sym (set_around id place stands.sink sinks around s));
  }

-- What a call leaves that finds the place of an id in the list and changes the list there. The list is seen as `now`.
module _ (items now : List Sink) (id place : ℕ) (is : items ≡ now) (distinct : HasDistinctIds (λ t. t.id) now) (stands : StandsAt now id place) where
  distinct_items : HasDistinctIds (λ t. t.id) items
  distinct_items = subst (λ l. HasDistinctIds (λ t. t.id) l) (sym is) distinct

  stands_items : StandsAt items id place
  stands_items = record { sink = stands.sink; here = ap (λ l. slice_get l place) is ∙ stands.here; same = stands.same }

  pub within_items : place < length items
  unfolding stands_items
  within_items = slice_get_within items place stands.sink stands_items.here

  -- the sink that was read there
  read_here : (r : Sink) → r ≡ get_or items place r → slice_get items place ≡ Some r
  read_here r read = slice_get_read items (length items) place r refl within_items read

  read_same : (r : Sink) → r ≡ get_or items place r → r.id ≡ id
  read_same r read = (let one : stands.sink ≡ r = (let a = stands_items.here in let b = read_here r read in cc) in ap (λ t. t.id) (sym one) ∙ stands.same)

  pub write_is : (f : Sink → Sink) (r s : Sink) → r ≡ get_or items place r → s ≡ f r → set items place s ≡ changed id f now
  write_is f r s read made =
      let around : Around id place r items = around_of id place r items distinct_items (read_here r read) (read_same r read) in
      ap (set items place) made ∙ set_around id place r items around (f r) ∙ sym (changed_around id place r items around f) ∙ ap (changed id f) is

  pub write_keeps : (places : BTreeMap ℕ ℕ) (f : Sink → Sink) (r s : Sink) → IsIndexed items places → r ≡ get_or items place r → s ≡ f r → (f r).id ≡ r.id
      → IsIndexed (set items place s) places
  write_keeps places f r s indexed read made keeps =
      write_indexed items places id place indexed distinct_items stands_items s (ap (λ t. t.id) made ∙ keeps ∙ read_same r read)

  -- a sink of the same id is put there
  pub put_is : (s : Sink) → set items place s ≡ changed id (λ _. s) now
  put_is s = write_is (λ _. s) (get_or items place s) s (get_or_default items place s (get_or items place s) within_items) refl

  pub put_keeps : (places : BTreeMap ℕ ℕ) (s : Sink) → IsIndexed items places → s.id ≡ id → IsIndexed (set items place s) places
  put_keeps places s indexed same = write_indexed items places id place indexed distinct_items stands_items s same

  pub remove_is : (new : List Sink) → new ≡ remove items place → new ≡ without id now
  unfolding stands_items
  remove_is new left =
      let around : Around id place stands.sink items = around_of id place stands.sink items distinct_items stands_items.here stands.same in
      left ∙ remove_around id place stands.sink items around ∙ sym (without_around id place stands.sink items around) ∙ ap (without id) is

  pub remove_keeps : (places places' : BTreeMap ℕ ℕ) (new : List Sink) → IsIndexed items places → new ≡ remove items place
      → UpdatesBy nat_cmp (nat_cmp id) places places' None → IsIndexed new places'
  remove_keeps places places' new indexed left updates =
      subst (λ l. IsIndexed l places') (sym left) (remove_indexed items places id place indexed distinct_items stands_items places' updates)

same_indexed : (sinks : List Sink) (places places' : BTreeMap ℕ ℕ) → IsIndexed sinks places → IsUnchanged places places' → IsIndexed sinks places'
same_indexed sinks places places' indexed same = record { there = λ q. ap (λ es. is_some (lookup (is_at (nat_cmp q)) es)) same ∙ indexed.there q }

-- a sink was put in, or memory ran out
pub insert_keeps : (sinks sinks' : List Sink) (places places' : BTreeMap ℕ ℕ) (place : ℕ) (s : Sink) (r : Result (Unit {0}) NoMemory) → IsIndexed sinks places
    → OnOk r (sinks' ≡ insert sinks place s) → OnOk r (Updates nat_cmp places places' s.id (Some place))
    → OnErr r (sinks' ≡ sinks) → OnErr r (IsUnchanged places places') → IsIndexed sinks' places'
insert_keeps sinks sinks' places places' place s (Ok u) indexed more updates same still =
    subst (λ l. IsIndexed l places') (sym more) (insert_indexed sinks places places' place s indexed updates)
insert_keeps sinks sinks' places places' place s (Err e) indexed more updates same still =
    subst (λ l. IsIndexed l places') (sym same) (same_indexed sinks places places' indexed still)
