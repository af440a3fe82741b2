-- What the calls of a roster do to its slots and its map.
use Rattle.std.proofs.Common.{◌≡◌, ◌≢◌, ℕ, ◌+◌, ◌<◌, ◌≤◌, true, false, cond, not, nat_eq, List, [], ◌∷◌, ◌++◌, length, set, get_or, slice_get, Option, Some, None, is_some, inl, inr, refl, sym, ap, ◌∙◌, subst, arith, length-append}
use Rattle.std.specs.Ordering.{nat_cmp}
use Rattle.std.specs.BTreeMap.{BTreeMap, get, is_at, Updates, UpdatesBy}
use Rattle.std.proofs.lemmas.Bool.{ne_eqb, cases_eq, both_ways}
use Rattle.std.proofs.lemmas.Bool.Decides.{nat_tests}
use Rattle.std.proofs.lemmas.Option.{slice_get_within, slice_get_read}
use Rattle.std.proofs.lemmas.List.{length-map}
use Rattle.std.proofs.lemmas.List.Elements.{filter-append}
use Rattle.std.proofs.lemmas.List.Filters.{length-filter_both}
use Rattle.cts_units.specs.declared.params.Sink.{Sink}
use Rattle.cts_edit.specs.Edits.{has_id, without, changed}
use Rattle.cts_edit.specs.Roster.{is_present, present, vacancy, StandsAt, IsRoster}
use Rattle.cts_edit.proofs.Places.{get_set_same, get_set_other, get_push, get_before_push, get_pushed}
use Rattle.cts_edit.proofs.Slots.{Lacks, IsAlone, has_none, has_one, without_none, changed_none, taken_out, one_less, changed_in}

-- which key a number finds
at_same : (a b : ℕ) → a ≡ b → is_at (nat_cmp a) b ≡ true
at_same a b same = grind (arith, nat_tests)

at_other : (a b : ℕ) → (a ≡ b → ⊥) → is_at (nat_cmp a) b ≡ false
at_other a b other = grind (arith, nat_tests)

one_place : (j k : ℕ) (o : Option ℕ) → o ≡ Some j → o ≡ Some k → j ≡ k
one_place j k o p q = grind arith

not_both : (k : ℕ) (o : Option ℕ) → o ≡ Some k → o ≡ None → ⊥
not_both k o p q = grind arith

module _ (slots : List Sink) (places : BTreeMap ℕ ℕ) (n : ℕ) (roster : IsRoster slots places n) where
  pub lacks_from : (id : ℕ) → get nat_cmp places id ≡ None → Lacks is_present id slots
  lacks_from id free = record {
    none = λ k t at is same. not_both k (get nat_cmp places id) (ap (get nat_cmp places) (sym same) ∙ roster.named k t at is) free;
  }

  pub alone_from : (id k : ℕ) → get nat_cmp places id ≡ Some k → IsAlone is_present id k slots
  alone_from id k at = record {
    one = λ p t there is same. one_place p k (get nat_cmp places id) (ap (get nat_cmp places) (sym same) ∙ roster.named p t there is) at;
  }

  -- there are no more sinks than slots
  pub count_within : n ≤ length slots
  count_within =
      let both = length-filter_both is_present (λ s. not (is_present s)) (λ s. refl) slots in
      omega (arith, roster.count, both)

  -- whether the map has an id
  pub has_by : (id : ℕ) → is_some (get nat_cmp places id) ≡ has_id id (present slots)
  has_by id = by_found (get nat_cmp places id) refl
    where
      by_found : (o : Option ℕ) → get nat_cmp places id ≡ o → is_some o ≡ has_id id (present slots)
      by_found None free = sym (has_none is_present id slots (lacks_from id free))
      by_found (Some k) at = let s = roster.found id k at in sym (has_one is_present id k s.sink slots s.slot s.is_there s.same)

  pub place_within : (id k : ℕ) → get nat_cmp places id ≡ Some k → k < length slots
  place_within id k at = let s = roster.found id k at in slice_get_within slots k s.sink s.slot

  -- an id that isn't there
  pub without_same : (id : ℕ) → get nat_cmp places id ≡ None → without id (present slots) ≡ present slots
  without_same id free = without_none is_present id slots (lacks_from id free)

  pub changed_same : (id : ℕ) (f : Sink → Sink) → get nat_cmp places id ≡ None → changed id f (present slots) ≡ present slots
  changed_same id f free = changed_none is_present id f slots (lacks_from id free)

  module _ (id k : ℕ) (at : get nat_cmp places id ≡ Some k) where
    stands : StandsAt slots id k
    stands = roster.found id k at

    -- a sink is changed, and keeps its id
    module _ (f : Sink → Sink) (keeps : (s : Sink) → (f s).id ≡ s.id) where
      there_still : (s : Sink) → is_present s ≡ true → is_present (f s) ≡ true
      there_still s is = ap (λ i. not (nat_eq i 4294967295)) (keeps s) ∙ is

      pub write_view : (s : Sink) → slice_get slots k ≡ Some s → present (set slots k (f s)) ≡ changed id f (present slots)
      write_view s here =
          let stand = stands in
          let same : stand.sink ≡ s = (let e = stand.slot in cc) in
          let is : is_present s ≡ true = ap is_present (sym same) ∙ stand.is_there in
          changed_in is_present id k f s slots here is (ap (λ t. t.id) (sym same) ∙ stand.same) (there_still s is) (alone_from id k at)

      pub write_keeps : (s : Sink) → slice_get slots k ≡ Some s → IsRoster (set slots k (f s)) places n
      write_keeps s here =
          let stand = stands in
          let same : stand.sink ≡ s = (let e = stand.slot in cc) in
          let is : is_present s ≡ true = ap is_present (sym same) ∙ stand.is_there in
          let one : s.id ≡ id = ap (λ t. t.id) (sym same) ∙ stand.same in
          let within : k < length slots = place_within id k at in
          record {
            count = roster.count ∙ sym (ap length (write_view s here) ∙ length-map (present slots) _);
            named = λ p t seen there. elim (cases_eq p k) [
              | inl here' ↦
                  let now : f s ≡ t = (let a = get_set_same slots k (f s) within in let b = subst (λ q. slice_get (set slots k (f s)) q ≡ Some t) here' seen in cc) in
                  ap (get nat_cmp places) (ap (λ u. u.id) (sym now) ∙ keeps s ∙ one) ∙ at ∙ ap Some (sym here')
              | inr other ↦ roster.named p t (sym (get_set_other slots k p (f s) other) ∙ seen) there
            ];
            found = λ q p seen. elim (cases_eq p k) [
              | inl here' ↦
                  let was = roster.found q p seen in
                  let here_is : s ≡ was.sink = (let a = subst (λ j. slice_get slots j ≡ Some was.sink) here' was.slot in cc) in
                  record {
                    sink = f s;
                    slot = ap (slice_get (set slots k (f s))) here' ∙ get_set_same slots k (f s) within;
                    is_there = there_still s is;
                    same = keeps s ∙ ap (λ u. u.id) here_is ∙ was.same;
                  }
              | inr other ↦
                  let was = roster.found q p seen in
                  record { sink = was.sink; slot = get_set_other slots k p (f s) other ∙ was.slot; is_there = was.is_there; same = was.same }
            ];
          }

    -- the slot that was read has the sink
    pub read_slot : (s : Sink) → s ≡ get_or slots k s → slice_get slots k ≡ Some s
    read_slot s read = slice_get_read slots (length slots) k s refl (place_within id k at) read

    -- a sink is taken out
    pub some_taken : n ≡ length (present (set slots k vacancy)) + 1
    some_taken = let stand = stands in roster.count ∙ one_less is_present k stand.sink vacancy slots stand.slot stand.is_there refl

    pub take_view : present (set slots k vacancy) ≡ without id (present slots)
    take_view = let stand = stands in taken_out is_present id k stand.sink vacancy slots stand.slot stand.is_there stand.same refl (alone_from id k at)

    pub take_keeps : (places' : BTreeMap ℕ ℕ) (n' : ℕ) → UpdatesBy nat_cmp (nat_cmp id) places places' None → n ≡ n' + 1
        → IsRoster (set slots k vacancy) places' n'
    take_keeps places' n' updates less =
        let within : k < length slots = place_within id k at in
        let taken = some_taken in
        record {
          count = omega arith;
          named = λ p t seen there. elim (cases_eq p k) [
            | inl here' ↦
                let now : vacancy ≡ t = (let a = get_set_same slots k vacancy within in let b = subst (λ q. slice_get (set slots k vacancy) q ≡ Some t) here' seen in cc) in
                absurd (both_ways (is_present t) (ap is_present (sym now)) there)
            | inr other ↦
                let was : slice_get slots p ≡ Some t = sym (get_set_other slots k p vacancy other) ∙ seen in
                let apart : id ≡ t.id → ⊥ = λ one. other ((alone_from id k at).one p t was there (sym one)) in
                updates.2 t.id (at_other id t.id apart) ∙ roster.named p t was there
          ];
          found = λ q p seen. elim (cases_eq id q) [
            | inl one ↦ absurd (not_both p (get nat_cmp places' q) seen (updates.0 q ∙ ap (λ b. cond b None (get nat_cmp places q)) (at_same id q one)))
            | inr apart ↦
                let seen' : get nat_cmp places q ≡ Some p = sym (updates.2 q (at_other id q apart)) ∙ seen in
                let was = roster.found q p seen' in
                let other : p ≢ k = λ e. apart (
                let here_is : stands.sink ≡ was.sink = (let a = stands.slot in let b = subst (λ j. slice_get slots j ≡ Some was.sink) e was.slot in cc) in
                sym stands.same ∙ ap (λ u. u.id) here_is ∙ was.same) in
                record { sink = was.sink; slot = get_set_other slots k p vacancy other ∙ was.slot; is_there = was.is_there; same = was.same }
          ];
        }

  -- a sink is added
  module _ (sink : Sink) (new : has_id sink.id (present slots) ≡ false) (small : sink.id ≤ 999999999) where
    there : is_present sink ≡ true
    there = ap not (ne_eqb sink.id 4294967295 (λ e. omega arith))

    free : get nat_cmp places sink.id ≡ None
    free = by_found (get nat_cmp places sink.id) refl
      where
        by_found : (o : Option ℕ) → get nat_cmp places sink.id ≡ o → o ≡ None
        by_found None is = refl
        by_found (Some k) is = absurd (both_ways true (ap is_some (sym is) ∙ has_by sink.id ∙ new) refl)

    pub add_view : present (slots ++ sink ∷ []) ≡ present slots ++ sink ∷ []
    add_view = filter-append is_present slots (sink ∷ []) ∙ ap (λ b. present slots ++ cond b (sink ∷ []) []) there

    pub add_keeps : (places' : BTreeMap ℕ ℕ) → Updates nat_cmp places places' sink.id (Some (length slots)) → IsRoster (slots ++ sink ∷ []) places' (n + 1)
    add_keeps places' updates = record {
      count = rw (add_view, length-append (present slots) (sink ∷ [])) (ap (λ m. m + 1) roster.count);
      named = λ p t seen is. elim (get_push slots sink p t seen) [
        | inl before ↦
            let was : get nat_cmp places t.id ≡ Some p = roster.named p t before.1 is in
            let apart : sink.id ≡ t.id → ⊥ = λ one. not_both p (get nat_cmp places t.id) was (ap (get nat_cmp places) (sym one) ∙ free) in
            updates.2 t.id (at_other sink.id t.id apart) ∙ was
        | inr last ↦
            updates.0 t.id ∙ ap (λ b. cond b (Some (length slots)) (get nat_cmp places t.id)) (at_same sink.id t.id (ap (λ u. u.id) last.1)) ∙ ap Some (sym last.0)
      ];
      found = λ q p seen. elim (cases_eq sink.id q) [
        | inl one ↦
            let at : length slots ≡ p = one_place (length slots) p (get nat_cmp places' q)
            (updates.0 q ∙ ap (λ b. cond b (Some (length slots)) (get nat_cmp places q)) (at_same sink.id q one)) seen in
            record { sink = sink; slot = ap (slice_get (slots ++ sink ∷ [])) (sym at) ∙ get_pushed slots sink; is_there = there; same = one }
        | inr apart ↦
            let was = roster.found q p (sym (updates.2 q (at_other sink.id q apart)) ∙ seen) in
            record { sink = was.sink; slot = get_before_push slots sink p was.sink was.slot; is_there = was.is_there; same = was.same }
      ];
    }
