-- Sinks by their ids.
use Rattle.std.proofs.Common.{◌≡◌, ℕ, zero, suc, ◌+◌, ◌<◌, ◌==◌, Bool, true, false, cond, not, List, [], ◌∷◌, length, get_or, slice_get, Some, refl, ap, ◌∙◌, arith}
use Rattle.std.specs.List.{Contains, position_or_len}
use Rattle.std.proofs.lemmas.Bool.Decides.{nat_tests}
use Rattle.std.proofs.lemmas.Option.{slice_get_within, get_or_from_slice_get, slice_get-get_or}
use Rattle.cts_units.specs.declared.params.Sink.{Sink}
use Rattle.cts_units.specs.Ids.{HasDistinctIds}
use Rattle.cts_check.specs.Told.{place_of_id}

module _ {A : Type 0} (p : A → Bool) where
  -- the first place at which a test passes
  pub first_at : (xs : List A) (k : ℕ) (d : A) → k < length xs → p (get_or xs k d) ≡ true
      → ((j : ℕ) → j < k → p (get_or xs j d) ≡ false) → position_or_len p xs ≡ k
  first_at [] k d h passes fails = absurd (omega (arith, h))
  first_at (x ∷ xs) zero d h passes fails = ap (λ b. cond (not b) (1 + position_or_len p xs) 0) passes
  first_at (x ∷ xs) (suc k) d h passes fails =
      let later : position_or_len p (x ∷ xs) ≡ 1 + position_or_len p xs =
      ap (λ b. cond (not b) (1 + position_or_len p xs) 0) (fails 0 (omega arith)) in
      omega (arith, later, first_at xs k d (omega (arith, h)) passes (λ j less. fails (suc j) (omega (arith, less))))

  -- it passes there, where there is one
  pub passes_at : (xs : List A) (d : A) → position_or_len p xs < length xs → p (get_or xs (position_or_len p xs) d) ≡ true
  passes_at [] d h = absurd (omega (arith, h))
  passes_at (x ∷ xs) d h = by (p x) refl (λ less. passes_at xs d less)
    where
      by : (b : Bool) → p x ≡ b → (position_or_len p xs < length xs → p (get_or xs (position_or_len p xs) d) ≡ true)
          → p (get_or (x ∷ xs) (position_or_len p (x ∷ xs)) d) ≡ true
      by true e more = ap (λ n. p (get_or (x ∷ xs) n d)) (ap (λ b. cond (not b) (1 + position_or_len p xs) 0) e) ∙ e
      by false e more =
          let later : position_or_len p (x ∷ xs) ≡ 1 + position_or_len p xs =
          ap (λ b. cond (not b) (1 + position_or_len p xs) 0) e in
          let next : position_or_len p (x ∷ xs) ≡ suc (position_or_len p xs) = omega (arith, later) in
          ap (λ n. p (get_or (x ∷ xs) n d)) next ∙ more (omega (arith, later, h))

module _ (sinks : List Sink) (distinct : HasDistinctIds (λ (s : Sink). s.id) sinks) where
  -- a sink stands at the place of its id
  pub place_found : (s : ℕ) (sink : Sink) → slice_get sinks s ≡ Some sink → place_of_id sinks sink.id ≡ s
  place_found s sink found =
      let within : s < length sinks = slice_get_within sinks s sink found in
      let at : get_or sinks s sink ≡ sink = get_or_from_slice_get sinks s sink sink found in
      first_at (λ (q : Sink). q.id == sink.id) sinks s sink within (grind (arith, nat_tests, ap (λ (q : Sink). q.id) at))
      (λ j less. grind (arith, nat_tests, distinct j s sink less within, ap (λ (q : Sink). q.id) at))

  pub place_found_of : (sink : Sink) → Contains sinks sink → slice_get sinks (place_of_id sinks sink.id) ≡ Some sink
  place_found_of sink (k, within, at) =
      let found : slice_get sinks k ≡ Some sink = slice_get-get_or sinks k sink within ∙ ap Some at in
      ap (slice_get sinks) (place_found k sink found) ∙ found

-- where the place of an id is one of the list, the sink there has the id
pub id_at : (sinks : List Sink) (id : ℕ) (sink : Sink) → slice_get sinks (place_of_id sinks id) ≡ Some sink → sink.id ≡ id
id_at sinks id sink found =
    let within : place_of_id sinks id < length sinks = slice_get_within sinks (place_of_id sinks id) sink found in
    let passes = passes_at (λ (q : Sink). q.id == id) sinks sink within in
    let at : get_or sinks (place_of_id sinks id) sink ≡ sink = get_or_from_slice_get sinks (place_of_id sinks id) sink sink found in
    grind (arith, nat_tests, passes, ap (λ (q : Sink). q.id) at)
