-- What one accepted edit more does to a history and to the sinks after it.
use Rattle.std.proofs.Common.{◌≡◌, ℕ, ◌<◌, ◌≤◌, Bool, true, false, cond, List, [], ◌∷◌, ◌++◌, length, take, Option, Some, None, Result, Ok, Err, OnOk, OnErr, inl, inr, refl, sym, ap, ◌∙◌, subst, arith, length-append}
use Rattle.std.proofs.lemmas.Bool.{leb-false}
use Rattle.std.proofs.lemmas.List.{take-append-le, take_at}
use Rattle.cts_geom.specs.declared.bounds.Die.{Die}
use Rattle.cts_num.specs.declared.error.NoMemory.{NoMemory}
use Rattle.cts_units.specs.declared.params.Sink.{Sink}
use Rattle.cts_block.specs.declared.blocks.Block.{Block}
use Rattle.cts_instance.specs.declared.parts.Parts.{Parts}
use Rattle.cts_edit.specs.declared.edit.Edit.{Edit}
use Rattle.cts_edit.specs.declared.edit.Entry.{Entry}
use Rattle.cts_edit.specs.declared.edit.EditCause.{EditCause}
use Rattle.cts_edit.specs.Edits.{has_id, applied, after}
use Rattle.cts_edit.specs.Decide.{is_known, is_unknown, is_outside, is_in_block, is_full, is_last, id_of, walls_of, cause_by, first_cause, decide}
use Rattle.cts_edit.specs.Sound.{IsAccepted, IsSound}
use Rattle.cts_edit.proofs.Places.{get_push}

-- no cause holds
pub record Passes (die : Die) (walls : List Block) (sinks : List Sink) (edits : ℕ) (edit : Edit) : Type 0 where
  pub known : is_known (has_id (id_of edit) sinks) edit ≡ false
  pub unknown : is_unknown (has_id (id_of edit) sinks) edit ≡ false
  pub outside : is_outside die edit ≡ false
  pub in_block : is_in_block walls edit ≡ false
  pub full : is_full (length sinks) edit ≡ false
  pub last : is_last (length sinks) edit ≡ false
  pub long : edits < 65536

peel : (b : Bool) (cause : EditCause) (later : Option EditCause) → cond b (Some cause) later ≡ None → (b ≡ false) × (later ≡ None)
peel true cause later e = absurd (cc)
peel false cause later e = (refl, e)

pub passes : (die : Die) (walls : List Block) (sinks : List Sink) (edits : ℕ) (edit : Edit) → first_cause die walls sinks edits edit ≡ None
    → Passes die walls sinks edits edit
unfolding cause_by
passes die walls sinks edits edit none =
    let known = peel _ _ _ none in
    let unknown = peel _ _ _ (known.1) in
    let outside = peel _ _ _ (unknown.1) in
    let in_block = peel _ _ _ (outside.1) in
    let full = peel _ _ _ (in_block.1) in
    let last = peel _ _ _ (full.1) in
    let long = peel _ _ _ (last.1) in
    record {
      known = known.0;
      unknown = unknown.0;
      outside = outside.0;
      in_block = in_block.0;
      full = full.0;
      last = last.0;
      long = leb-false 65536 edits long.0;
    }

pub accepted_passes : (base : Parts) (history : List Entry) (edit : Edit) → decide base history edit ≡ None
    → Passes base.die (walls_of base.blocks) (after base.sinks history) (length history) edit
accepted_passes base history edit none = passes base.die (walls_of base.blocks) (after base.sinks history) (length history) edit none

-- the sinks after one entry more
pub after_push : (sinks : List Sink) (history : List Entry) (entry : Entry) → after sinks (history ++ entry ∷ []) ≡ applied entry.edit (after sinks history)
after_push sinks [] entry = refl
after_push sinks (first ∷ history) entry = after_push (applied first.edit sinks) history entry

pub sound_push : (base : Parts) (history : List Entry) (entry : Entry) → IsSound base history → IsAccepted base history entry.edit
    → IsSound base (history ++ entry ∷ [])
sound_push base history entry sound accepted = record {
  each = λ n e at. elim (get_push history entry n e at) [
    | inl before ↦
        let front : take n (history ++ entry ∷ []) ≡ take n history = take-append-le n history (entry ∷ []) (let h : n < length history = before.0 in omega arith) in
        subst (λ l. IsAccepted base l e.edit) (sym front) (sound.each n e before.1)
    | inr last ↦
        let front : take n (history ++ entry ∷ []) ≡ history = take_at history (entry ∷ []) n (sym last.0) in
        subst (λ l. IsAccepted base l e.edit) (sym front) (subst (λ f. IsAccepted base history f.edit) last.1 accepted)
  ];
}

-- what a design keeps of its history and its sinks
pub record Keeps (base : Parts) (history : List Entry) (sinks : List Sink) : Type 0 where
  pub kept : sinks ≡ after base.sinks history
  pub sound : IsSound base history
  pub short : length history ≤ 65536

pub keeps_more : (base : Parts) (history : List Entry) (sinks : List Sink) (entry : Entry) → Keeps base history sinks
    → IsAccepted base history entry.edit → Keeps base (history ++ entry ∷ []) (applied entry.edit sinks)
keeps_more base history sinks entry keeps accepted = record {
  kept = ap (applied entry.edit) keeps.kept ∙ sym (after_push base.sinks history entry);
  sound = sound_push base history entry keeps.sound accepted;
  short =
      let room : length history < 65536 = (accepted_passes base history entry.edit accepted.accepted).long in
      omega (arith, length-append history (entry ∷ []));
}

-- the same after an edit that was made, or for which memory ran out
pub keeps_on : (base : Parts) (history history' : List Entry) (sinks sinks' : List Sink) (entry : Entry) (r : Result (Unit {0}) NoMemory)
    → Keeps base history sinks → IsAccepted base history entry.edit
    → OnOk r (history' ≡ history ++ entry ∷ []) → OnOk r (sinks' ≡ applied entry.edit sinks)
    → OnErr r (history' ≡ history) → OnErr r (sinks' ≡ sinks) → Keeps base history' sinks'
keeps_on base history history' sinks sinks' entry (Ok u) keeps accepted more made same still =
    subst (λ h. Keeps base h sinks') (sym more)
    (subst (λ s. Keeps base (history ++ entry ∷ []) s) (sym made) (keeps_more base history sinks entry keeps accepted))
keeps_on base history history' sinks sinks' entry (Err e) keeps accepted more made same still =
    subst (λ h. Keeps base h sinks') (sym same) (subst (λ s. Keeps base history s) (sym still) keeps)
