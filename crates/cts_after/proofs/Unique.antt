-- A history comes to one thing on an instance, and so does an input.
use Rattle.std.proofs.Common.{◌≡◌, ℕ, zero, suc, ◌<◌, ◌≤◌, List, [], ◌∷◌, take, slice_get, Option, Some, None, refl, sym, ap, ap₂, ◌∙◌, subst, inl, inr, arith}
use Rattle.std.proofs.lemmas.Bool.{cases_lt}
use Rattle.cts_instance.specs.declared.parts.Parts.{Parts}
use Rattle.cts_edit.specs.declared.edit.EditCause.{EditCause}
use Rattle.cts_edit.specs.declared.edit.Entry.{Entry}
use Rattle.cts_edit.specs.Decide.{decide}
use Rattle.cts_edit.specs.Sound.{IsSound}
use Rattle.cts_history.specs.Opening.{Opens}
use Rattle.cts_history.proofs.Openings.{history_is_one_lem}
use Rattle.cts_after.specs.declared.outcome.Outcome.{Outcome}
use Rattle.cts_after.specs.declared.outcome.Outcome.TheVariants.{Made, Refused}
use Rattle.cts_after.specs.Outcomes.{IsOutcome, IsRefusedAt}
use Rattle.cts_after.specs.Laws.{OutcomeIsOne}
use Rattle.cts_after.proofs.Inputs.{fronts_are_one}

take_less : {X : Type 0} (less count : ℕ) (xs : List X) → less ≤ count → take less (take count xs) ≡ take less xs
take_less zero count xs le = refl
take_less (suc less) zero xs le = absurd (omega arith)
take_less (suc less) (suc count) [] le = refl
take_less (suc less) (suc count) (x ∷ xs) le = ap (λ t. x ∷ t) (take_less less count xs (omega arith))

get_front : {X : Type 0} (k count : ℕ) (xs : List X) → k < count → slice_get (take count xs) k ≡ slice_get xs k
get_front k zero xs lt = absurd (omega arith)
get_front zero (suc count) [] lt = refl
get_front (suc k) (suc count) [] lt = refl
get_front zero (suc count) (x ∷ xs) lt = refl
get_front (suc k) (suc count) (x ∷ xs) lt = get_front k count xs (omega arith)

not_both : {X : Type 0} {x : X} (o : Option X) → o ≡ None → o ≡ Some x → ⊥
not_both o e f = cc

some_is : {X : Type 0} {x y : X} (o : Option X) → o ≡ Some x → o ≡ Some y → x ≡ y
some_is o e f = cc

module _ (base : Parts) (history : List Entry) where
  none_refused : (number : ℕ) (cause : EditCause) → IsSound base history → IsRefusedAt base history number cause → ⊥
  none_refused number cause sound r =
      not_both (decide base (take r.before history) r.entry.edit) ((sound.each r.before r.entry r.here).accepted) r.refused

  none_earlier : (number other : ℕ) (cause why : EditCause) (r : IsRefusedAt base history number cause) (s : IsRefusedAt base history other why)
      → r.before < s.before → ⊥
  none_earlier number other cause why r s lt =
      let accepted = (s.sound.each r.before r.entry (get_front r.before s.before history lt ∙ r.here)).accepted in
      not_both (decide base (take r.before history) r.entry.edit)
      (subst (λ h. decide base h r.entry.edit ≡ None) (take_less r.before s.before history (omega (arith, lt))) accepted) r.refused

  same_before : (number other : ℕ) (cause why : EditCause) (r : IsRefusedAt base history number cause) (s : IsRefusedAt base history other why)
      → r.before ≡ s.before
  same_before number other cause why r s =
      elim (cases_lt r.before s.before) [
        | inl lt ↦ absurd (none_earlier number other cause why r s lt)
        | inr le ↦ elim (cases_lt s.before r.before) [
          | inl lt ↦ absurd (none_earlier other number why cause s r lt)
          | inr ge ↦ omega (arith, le, ge)
        ]
      ]

  same_cause : (number other : ℕ) (cause why : EditCause) → IsRefusedAt base history number cause → IsRefusedAt base history other why → cause ≡ why
  same_cause number other cause why r s =
      let at = same_before number other cause why r s in
      let entry : r.entry ≡ s.entry = some_is (slice_get history r.before) r.here (ap (slice_get history) at ∙ s.here) in
      some_is (decide base (take r.before history) r.entry.edit) r.refused
      (ap (λ k. decide base (take k history) r.entry.edit) at ∙ ap (λ e. decide base (take s.before history) e.edit) entry ∙ s.refused)

  outcomes_are_one : (a b : Outcome) → IsOutcome base history a → IsOutcome base history b → a ≡ b
  outcomes_are_one (Made x) (Made y) h g = ap Made (h.1 ∙ sym g.1)
  outcomes_are_one (Made x) (Refused other why) h g = absurd (none_refused other why h.0 g)
  outcomes_are_one (Refused number cause) (Made y) h g = absurd (none_refused number cause g.0 h)
  outcomes_are_one (Refused number cause) (Refused other why) h g =
      let before = same_before number other cause why h g in
      let numbers : number ≡ other = omega (arith, h.next, g.next, before) in
      ap₂ (λ n c. Refused n c) numbers (same_cause number other cause why h g)

pub outcome_is_one_lem : OutcomeIsOne
outcome_is_one_lem bytes a b x y =
    let same = fronts_are_one bytes x.instance y.instance x.spells.rest y.spells.rest x.spells.front y.spells.front in
    let rest : x.spells.rest ≡ y.spells.rest = ap (λ (p : Parts × List ℕ). p.1) same in
    let i : x.instance ≡ y.instance = ap (λ (p : Parts × List ℕ). p.0) same in
    let h : x.history ≡ y.history =
    history_is_one_lem x.spells.rest x.history y.history x.spells.opens (subst (λ r. Opens r y.history) (sym rest) y.spells.opens) in
    outcomes_are_one x.instance x.history a b x.is_outcome
    (subst (λ j. IsOutcome j x.history b) (sym i) (subst (λ g. IsOutcome y.instance g b) (sym h) y.is_outcome))
