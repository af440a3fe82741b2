-- Pieces that are put into slots by their numbers.
use Rattle.std.proofs.Common.{◌≡◌, ◌≢◌, ℕ, zero, suc, ◌+◌, ◌<◌, ◌≤◌, ◌⊎◌, inl, inr, List, [], ◌∷◌, ◌++◌, length, get_or, set, slice_get, Option, Some, None, Contains, refl, sym, ap, ◌∙◌, subst, arith, length-set, get_or-set_other}
use mathlib.Core.Logic.{dite}
use native.Mathlib.Decide.{ℕ_discrete}
use Rattle.std.proofs.lemmas.Grind.{get_or-set_at}
use Rattle.std.proofs.lemmas.List.{get_or-map, length-map}
use Rattle.std.proofs.lemmas.List.Elements.{Contains-append_cases, Contains-append_left, Contains-append_right}
use Rattle.std.proofs.lemmas.Option.{slice_get-get_or}
use Rattle.cts_work.specs.declared.workers.Done.{Done}
use Rattle.cts_work.specs.Done.{AreOnce, IsSlot, numbers_of}
use Rattle.cts_work.proofs.Drawn.{numbers_push}

pub later : (k n : ℕ) → k + 1 ≤ n → n ≢ k
later k n h = λ e. absurd (omega (arith, h, e))

-- a store leaves the other slots
pub slot_kept : (slots : List (Option Done)) (k n : ℕ) (x : Option Done) → n ≢ k → n < length slots → slice_get (set slots k x) n ≡ slice_get slots n
slot_kept slots k n x ne h =
    slice_get-get_or (set slots k x) n None (omega (arith, length-set slots k x, h))
    ∙ ap Some (get_or-set_other slots k n x None ne)
    ∙ sym (slice_get-get_or slots n None h)

-- each number is that of a piece that is still to come, or its slot has a piece
abbrev pub AreFilled : ℕ → List Done → List Done → List (Option Done) → Type 0
AreFilled count done rest slots = (n : ℕ) → n < count → Contains (numbers_of rest) n ⊎ IsSlot done slots n

-- all pieces that are still to come are among those that are done
abbrev pub AreAmong : List Done → List Done → Type 0
AreAmong rest done = (d : Done) → Contains rest d → Contains done d

pub number_below : (count : ℕ) (done : List Done) (d : Done) → AreOnce count (numbers_of done) → Contains done d → d.number < count
number_below count done d once there =
    subst (λ (x : Done). x.number < count) (there.2)
    (subst (λ (n : ℕ). n < count) (get_or-map (λ (x : Done). x.number) done (there.0) d 0 (there.1)) (once.below (there.0) 0 (omega (arith, there.1, length-map done (λ (x : Done). x.number)))))

single : (x n k : ℕ) → k < 1 → get_or (x ∷ []) k n ≡ n → n ≡ x
single x n zero h is = sym is
single x n (suc k) h is = absurd (omega arith)

module _ (count : ℕ) (done rest rest' : List Done) (d : Done) (is : rest ≡ rest' ++ d ∷ []) (among : AreAmong rest done) where
  pub last_among : Contains done d
  last_among = among d (subst (λ l. Contains l d) (sym is) (Contains-append_right rest' (d ∷ []) d (0, omega arith, refl)))

  pub rest_among : AreAmong rest' done
  rest_among x there = among x (subst (λ l. Contains l x) (sym is) (Contains-append_left rest' (d ∷ []) x there))

  -- one piece more
  pub filled_more : (slots slots' : List (Option Done)) → slots' ≡ set slots d.number (Some d) → length slots ≡ count → d.number < count
      → AreFilled count done rest slots → AreFilled count done rest' slots'
  filled_more slots slots' put long within filled = λ n h.
      dite (ℕ_discrete n d.number)
      (λ e. inr (d, here n e, last_among, sym e))
      (λ ne. elim (filled n h) [
        | inl there ↦ elim (Contains-append_cases (numbers_of rest') (d.number ∷ []) n
            (subst (λ l. Contains l n) (ap numbers_of is ∙ numbers_push rest' d) there)) [
              | inl left ↦ inl left
              | inr right ↦ absurd (ne (single d.number n (right.0) (right.1) (right.2)))
            ]
        | inr slot ↦ inr (slot.0, ap (λ l. slice_get l n) put ∙ slot_kept slots d.number n (Some d) ne (omega (arith, long, h)) ∙ slot.1, slot.2, slot.3)
      ])
    where
      here : (n : ℕ) → n ≡ d.number → slice_get slots' n ≡ Some (Some d)
      here n e =
          ap (λ l. slice_get l n) put
          ∙ slice_get-get_or (set slots d.number (Some d)) n None (omega (arith, length-set slots d.number (Some d), e, long, within))
          ∙ ap Some (get_or-set_at slots d.number n (Some d) None e (omega (arith, long, within)))

-- at the start nothing is filled
pub none_filled : (count : ℕ) (done : List Done) (slots : List (Option Done)) → AreOnce count (numbers_of done) → AreFilled count done done slots
none_filled count done slots once = λ n h. inl (once.every n h)

-- at the end every slot is
pub all_filled : (count : ℕ) (done rest : List Done) (slots : List (Option Done)) → rest ≡ [] → AreFilled count done rest slots
    → (n : ℕ) → n < count → IsSlot done slots n
all_filled count done rest slots none filled n h =
    elim (filled n h) [
      | inl there ↦ absurd (omega (arith, (subst (λ l. Contains (numbers_of l) n) none there).1))
      | inr slot ↦ slot
    ]
