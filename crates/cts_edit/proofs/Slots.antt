-- Slots, of which some have a sink: what a write into one of them does to the list of the sinks.
use Rattle.std.proofs.Common.{◌≡◌, ℕ, ◌+◌, Bool, true, false, cond, nat_eq, List, [], ◌∷◌, zero, suc, length, set, slice_get, Some, refl, sym, ap, arith}
use Rattle.std.proofs.lemmas.Bool.{eq-eqb, ne_eqb, or_right, or_from}
use Rattle.std.specs.List.{filter}
use Rattle.cts_units.specs.declared.params.Sink.{Sink}
use Rattle.cts_edit.specs.Edits.{has_id, without, changed}
use Rattle.cts_edit.proofs.Places.{get_none}

module _ (there : Sink → Bool) where
  -- no sink has the id
  pub record Lacks (id : ℕ) (slots : List Sink) : Type 0 where
    pub none : (place : ℕ) (sink : Sink) → slice_get slots place ≡ Some sink → there sink ≡ true → sink.id ≡ id → ⊥

  -- none but the one at this place
  pub record IsAlone (id k : ℕ) (slots : List Sink) : Type 0 where
    pub one : (place : ℕ) (sink : Sink) → slice_get slots place ≡ Some sink → there sink ≡ true → sink.id ≡ id → place ≡ k

  lacks_rest : (id : ℕ) (s : Sink) (slots : List Sink) → Lacks id (s ∷ slots) → Lacks id slots
  lacks_rest id s slots lacks = record { none = λ k t at. lacks.none (suc k) t at }

  lacks_behind : (id : ℕ) (s : Sink) (slots : List Sink) → IsAlone id zero (s ∷ slots) → Lacks id slots
  lacks_behind id s slots alone = record { none = λ k t at is same. (let e : suc k ≡ zero = alone.one (suc k) t at is same in cc) }

  alone_rest : (id k : ℕ) (s : Sink) (slots : List Sink) → IsAlone id (suc k) (s ∷ slots) → IsAlone id k slots
  alone_rest id k s slots alone = record { one = λ p t at is same. (let e : suc p ≡ suc k = alone.one (suc p) t at is same in omega arith) }

  pub has_none : (id : ℕ) (slots : List Sink) → Lacks id slots → has_id id (filter there slots) ≡ false
  has_none id [] lacks = refl
  has_none id (s ∷ slots) lacks = by_there (there s) refl (has_none id slots (lacks_rest id s slots lacks))
    where
      by_there : (b : Bool) → there s ≡ b → has_id id (filter there slots) ≡ false → has_id id (cond b (s ∷ filter there slots) (filter there slots)) ≡ false
      by_there true is rest =
          or_from (nat_eq s.id id) (has_id id (filter there slots)) (ne_eqb s.id id (λ same. lacks.none zero s refl is same)) rest
      by_there false is rest = rest

  pub has_one : (id k : ℕ) (s : Sink) (slots : List Sink) → slice_get slots k ≡ Some s → there s ≡ true → s.id ≡ id
      → has_id id (filter there slots) ≡ true
  has_one id k s [] at is same = absurd (get_none k s at)
  has_one id zero s (t ∷ slots) at is same =
      let e : t ≡ s = cc in
      rw (e, is, eq-eqb s.id id same) refl
  has_one id (suc k) s (t ∷ slots) at is same = by_there (there t) (has_one id k s slots at is same)
    where
      by_there : (b : Bool) → has_id id (filter there slots) ≡ true → has_id id (cond b (t ∷ filter there slots) (filter there slots)) ≡ true
      by_there true rest = or_right (nat_eq t.id id) (has_id id (filter there slots)) rest
      by_there false rest = rest

  pub without_none : (id : ℕ) (slots : List Sink) → Lacks id slots → without id (filter there slots) ≡ filter there slots
  without_none id [] lacks = refl
  without_none id (s ∷ slots) lacks = by_there (there s) refl (without_none id slots (lacks_rest id s slots lacks))
    where
      by_there : (b : Bool) → there s ≡ b → without id (filter there slots) ≡ filter there slots
          → without id (cond b (s ∷ filter there slots) (filter there slots)) ≡ cond b (s ∷ filter there slots) (filter there slots)
      by_there true is rest = rw (ne_eqb s.id id (λ same. lacks.none zero s refl is same)) (ap (λ l. s ∷ l) rest)
      by_there false is rest = rest

  pub changed_none : (id : ℕ) (f : Sink → Sink) (slots : List Sink) → Lacks id slots → changed id f (filter there slots) ≡ filter there slots
  changed_none id f [] lacks = refl
  changed_none id f (s ∷ slots) lacks = by_there (there s) refl (changed_none id f slots (lacks_rest id s slots lacks))
    where
      by_there : (b : Bool) → there s ≡ b → changed id f (filter there slots) ≡ filter there slots
          → changed id f (cond b (s ∷ filter there slots) (filter there slots)) ≡ cond b (s ∷ filter there slots) (filter there slots)
      by_there true is rest = rw (ne_eqb s.id id (λ same. lacks.none zero s refl is same)) (ap (λ l. s ∷ l) rest)
      by_there false is rest = rest

  -- a sink is taken out of its slot
  pub taken_out : (id k : ℕ) (s v : Sink) (slots : List Sink) → slice_get slots k ≡ Some s → there s ≡ true → s.id ≡ id → there v ≡ false
      → IsAlone id k slots → filter there (set slots k v) ≡ without id (filter there slots)
  taken_out id k s v [] at is same gone alone = absurd (get_none k s at)
  taken_out id zero s v (t ∷ slots) at is same gone alone =
      let e : t ≡ s = cc in
      rw (gone, e, is, eq-eqb s.id id same) (sym (without_none id slots (lacks_behind id t slots alone)))
  taken_out id (suc k) s v (t ∷ slots) at is same gone alone =
      by_there (there t) refl (taken_out id k s v slots at is same gone (alone_rest id k t slots alone))
    where
      by_there : (b : Bool) → there t ≡ b → filter there (set slots k v) ≡ without id (filter there slots)
          → cond b (t ∷ filter there (set slots k v)) (filter there (set slots k v)) ≡ without id (cond b (t ∷ filter there slots) (filter there slots))
      by_there true here rest =
          rw (ne_eqb t.id id (λ one. let z : zero ≡ suc k = alone.one zero t refl here one in cc)) (ap (λ l. t ∷ l) rest)
      by_there false here rest = rest

  -- and then there is one less
  pub one_less : (k : ℕ) (s v : Sink) (slots : List Sink) → slice_get slots k ≡ Some s → there s ≡ true → there v ≡ false
      → length (filter there slots) ≡ length (filter there (set slots k v)) + 1
  one_less k s v [] at is gone = absurd (get_none k s at)
  one_less zero s v (t ∷ slots) at is gone = let e : t ≡ s = cc in rw (gone, e, is) (omega arith)
  one_less (suc k) s v (t ∷ slots) at is gone = by_there (there t) (one_less k s v slots at is gone)
    where
      by_there : (b : Bool) → length (filter there slots) ≡ length (filter there (set slots k v)) + 1
          → length (cond b (t ∷ filter there slots) (filter there slots)) ≡ length (cond b (t ∷ filter there (set slots k v)) (filter there (set slots k v))) + 1
      by_there true rest = omega arith
      by_there false rest = rest

  -- a sink is changed in its slot
  pub changed_in : (id k : ℕ) (f : Sink → Sink) (s : Sink) (slots : List Sink) → slice_get slots k ≡ Some s → there s ≡ true → s.id ≡ id
      → there (f s) ≡ true → IsAlone id k slots → filter there (set slots k (f s)) ≡ changed id f (filter there slots)
  changed_in id k f s [] at is same stays alone = absurd (get_none k s at)
  changed_in id zero f s (t ∷ slots) at is same stays alone =
      let e : t ≡ s = cc in
      rw (stays, e, is, eq-eqb s.id id same) (ap (λ l. f s ∷ l) (sym (changed_none id f slots (lacks_behind id t slots alone))))
  changed_in id (suc k) f s (t ∷ slots) at is same stays alone =
      by_there (there t) refl (changed_in id k f s slots at is same stays (alone_rest id k t slots alone))
    where
      by_there : (b : Bool) → there t ≡ b → filter there (set slots k (f s)) ≡ changed id f (filter there slots)
          → cond b (t ∷ filter there (set slots k (f s))) (filter there (set slots k (f s)))
          ≡ changed id f (cond b (t ∷ filter there slots) (filter there slots))
      by_there true here rest =
          rw (ne_eqb t.id id (λ one. let z : zero ≡ suc k = alone.one zero t refl here one in cc)) (ap (λ l. t ∷ l) rest)
      by_there false here rest = rest
