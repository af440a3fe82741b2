-- Sinks named by their ids, and the place that a search finds.
use Rattle.std.proofs.Common.{◌≡◌, ◌≢◌, ℕ, ◌+◌, ◌<◌, ◌==◌, List, [], ◌∷◌, ◌++◌, length, get_or, slice_get, Some, Ok, Err, refl, sym, ap, ◌∙◌, subst, ⊎_elim, arith, length-append}
use Rattle.std.specs.List.Sorted.{IsPermutation, IsNonDecreasingBy, IsBinarySearchResult}
use Rattle.std.specs.Ordering.{nat_cmp, ordering_index}
use Rattle.std.proofs.lemmas.Bool.{cases_lt}
use Rattle.std.proofs.lemmas.Bool.Decides.{nat_tests}
use Rattle.std.proofs.lemmas.Cmp.{ranked}
use Rattle.std.proofs.lemmas.List.{get_or_append_left, get_or_push}
use Rattle.std.proofs.lemmas.List.Sorted.{All-permutation, Contains-permutation, length_permutation}
use Rattle.std.proofs.lemmas.List.Sums.{position_or_len_is}
use Rattle.std.proofs.lemmas.Option.{slice_get-get_or, slice_get_within}
use Rattle.cts_units.specs.declared.params.Sink.{Sink}
use Rattle.cts_check.specs.declared.places.NamedSink.{NamedSink}
use Rattle.cts_check.specs.Places.{Names, AreNamed, FindsSinks}
use Rattle.cts_check.specs.Told.{place_of_id}
use Rattle.cts_check.proofs.Ids.{place_found}

-- the first sinks are named in their order
pub record AreNamedTo (sinks : List Sink) (ids : List NamedSink) (count : ℕ) : Type 0 where
  pub long : length ids ≡ count
  pub place_is : (k : ℕ) (d : NamedSink) → k < count → (get_or ids k d).place ≡ k
  pub names : (k : ℕ) (d : NamedSink) → k < count → Names sinks (get_or ids k d)

pub named_none : (sinks : List Sink) → AreNamedTo sinks [] 0
named_none sinks = record {
  long = refl;
  place_is = λ k d lt. absurd (omega (arith, lt));
  names = λ k d lt. absurd (omega (arith, lt));
}

pub named_more : (sinks : List Sink) (ids : List NamedSink) (count : ℕ) (named : NamedSink) → AreNamedTo sinks ids count
    → named.place ≡ count → Names sinks named → AreNamedTo sinks (ids ++ named ∷ []) (count + 1)
named_more sinks ids count named before place names = record {
  long = omega (arith, length-append ids (named ∷ []), before.long);
  place_is = λ k d lt. ⊎_elim
      (λ less. ap (λ (n : NamedSink). n.place) (get_or_append_left ids (named ∷ []) d k (omega (arith, less, before.long))) ∙ before.place_is k d less)
      (λ le. let e : length ids ≡ k = omega (arith, le, lt, before.long) in
      ap (λ (n : NamedSink). n.place) (get_or_push ids named d k e) ∙ omega (arith, place, e, before.long))
      (cases_lt k count);
  names = λ k d lt. ⊎_elim
      (λ less. subst (Names sinks) (sym (get_or_append_left ids (named ∷ []) d k (omega (arith, less, before.long)))) (before.names k d less))
      (λ le. let e : length ids ≡ k = omega (arith, le, lt, before.long) in subst (Names sinks) (sym (get_or_push ids named d k e)) names)
      (cases_lt k count);
}

same_named : (a b : NamedSink) → a.id ≡ b.id → a.place ≡ b.place → a ≡ b
same_named a b id place =
    ap (λ (n : ℕ). let h : NamedSink = record { id = n; place = a.place } in h) id
    ∙ ap (λ (n : ℕ). let h : NamedSink = record { id = b.id; place = n } in h) place

-- one place has one sink
same_sink : (sinks : List Sink) (a b : NamedSink) → a.place ≡ b.place → Names sinks a → Names sinks b → a.id ≡ b.id
same_sink sinks a b place first second =
    let e : Some first.sink ≡ Some second.sink = sym first.there ∙ ap (slice_get sinks) place ∙ second.there in
    sym first.id_is ∙ ap (λ (s : Sink). s.id) (some_is e) ∙ second.id_is
  where
    some_is : {x y : Sink} → ◌≡◌ (Some x) (Some y) → x ≡ y
    some_is e = cc

pub named_all : (sinks : List Sink) (ids : List NamedSink) (count : ℕ) → count ≡ length sinks → AreNamedTo sinks ids count → AreNamed sinks ids
named_all sinks ids count all named = record {
  long = named.long ∙ all;
  sound = λ k d lt. named.names k d (omega (arith, lt, named.long));
  complete = λ n names.
      let k = n.place in
      let within : k < count = omega (arith, all, slice_get_within sinks n.place names.sink names.there) in
      let place = named.place_is k n within in
      (k, omega (arith, within, named.long), same_named (get_or ids k n) n (same_sink sinks (get_or ids k n) n place (named.names k n within) names) place);
}

pub named_sorted : (sinks : List Sink) (ids sorted : List NamedSink) → IsPermutation ids sorted → AreNamed sinks ids → AreNamed sinks sorted
named_sorted sinks ids sorted moved named = record {
  long = length_permutation ids sorted moved ∙ named.long;
  sound = All-permutation (Names sinks) ids sorted moved named.sound;
  complete = λ n names. Contains-permutation ids sorted n moved (named.complete n names);
}

module _ (sinks : List Sink) (ids : List NamedSink) (finds : FindsSinks sinks ids) (id : ℕ) where
  -- the comparisons with the id rise along the list, as a binary search asks
  comparisons_rise : IsNonDecreasingBy (λ (n : NamedSink). ordering_index (nat_cmp n.id id)) ids
  comparisons_rise = λ i j d le within.
      let rise = finds.rise i j d le within in grind (arith, nat_tests, rise)

  -- what has the id names its sink
  pub place_at_name : (named : NamedSink) → Names sinks named → named.id ≡ id → named.place ≡ place_of_id sinks id
  place_at_name named names same =
      sym (place_found sinks finds.distinct named.place names.sink names.there) ∙ ap (place_of_id sinks) (names.id_is ∙ same)

  -- where nothing has the id, no sink has it
  pub place_past_names : ((k : ℕ) (d : NamedSink) → k < length ids → (get_or ids k d).id ≢ id) → length ids ≡ place_of_id sinks id
  place_past_names other =
      finds.named.long ∙ sym (all_other sinks (λ k sink there.
      let n : NamedSink = record { id = sink.id; place = k } in
      let at = finds.named.complete n (record { sink = sink; there = there; id_is = refl }) in
      λ same. other at.0 n at.1 (ap (λ (m : NamedSink). m.id) at.2 ∙ same)))
    where
      all_other : (xs : List Sink) → ((k : ℕ) (sink : Sink) → slice_get xs k ≡ Some sink → sink.id ≢ id) → place_of_id xs id ≡ length xs
      all_other [] none = refl
      all_other (x ∷ xs) none =
          position_or_len_is (λ (s : Sink). s.id == id) (x ∷ xs) (length (x ∷ xs)) x (omega arith)
          (λ k lt. let ne = none k (get_or (x ∷ xs) k x) (slice_get-get_or (x ∷ xs) k x lt) in grind (arith, nat_tests, ne))
          (λ lt. absurd (omega (arith, lt)))

  -- a binary search ends at a name with the id, or none has it
  pub name_found : (at : ℕ) (d : NamedSink) → IsBinarySearchResult (λ (n : NamedSink). nat_cmp n.id id) ids (Ok at) → (get_or ids at d).id ≡ id
  name_found at d equal = ranked (get_or ids at d).id id _ (sym (equal d))

  pub no_name : (at : ℕ) → IsBinarySearchResult (λ (n : NamedSink). nat_cmp n.id id) ids (Err at)
      → (k : ℕ) (d : NamedSink) → k < length ids → (get_or ids k d).id ≢ id
  no_name at parted k d within =
      let both = parted comparisons_rise in
      ⊎_elim
      (λ less. let lt = ranked (get_or ids k d).id id _ (sym (both.0 k d (omega arith) less)) in λ e. absurd (omega (arith, lt, e)))
      (λ le. let lt = ranked (get_or ids k d).id id _ (sym (both.1 k d le within)) in λ e. absurd (omega (arith, lt, e)))
      (cases_lt k at)
