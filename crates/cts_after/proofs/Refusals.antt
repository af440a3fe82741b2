-- The edits of a history, made one after another.
use Rattle.std.proofs.Common.{◌≡◌, ℕ, ◌+◌, ◌<◌, List, [], ◌∷◌, ◌++◌, length, take, get_or, Option, Some, None, pos, All, refl, sym, ap, ◌∙◌, subst}
use Rattle.std.proofs.lemmas.List.{take_more}
use Rattle.std.proofs.lemmas.Option.{slice_get-get_or}
use Rattle.cts_instance.specs.declared.parts.Parts.{Parts}
use Rattle.cts_edit.specs.declared.edit.Edit.TheVariants.{Add}
use Rattle.cts_edit.specs.declared.edit.EditCause.{EditCause}
use Rattle.cts_edit.specs.declared.edit.Entry.{Entry}
use Rattle.cts_edit.specs.Edits.{IsEdit}
use Rattle.cts_edit.specs.Decide.{decide}
use Rattle.cts_edit.specs.Sound.{IsSound}
use Rattle.cts_edit.proofs.Histories.{sound_push}
use Rattle.cts_edit.proofs.Places.{get_none}
use Rattle.cts_after.specs.Outcomes.{IsRefusedAt}

-- so many entries were made, and each was accepted
pub record AreMade (base : Parts) (history made : List Entry) (k : ℕ) : Type 0 where
  pub told : made ≡ take k history
  pub sound : IsSound base (take k history)

pub none_made : (base : Parts) (history made : List Entry) → made ≡ [] → AreMade base history made 0
none_made base history made e = record { told = e; sound = record { each = λ n entry at. absurd (get_none n entry at) } }

-- an entry that stands for none, where a place is past the end
abbrev pub blank : Entry
blank = record { caller = 0; line = 0; edit = Add 0 (pos 0) (pos 0) 0 }

-- the entry at a place
abbrev pub at : List Entry → ℕ → Entry
at history k = get_or history k blank

module _ (base now : Parts) (history made : List Entry) (k : ℕ) (inside : k < length history) (are : AreMade base history made k) (same : now ≡ base) where
  moved : (outcome : Option EditCause) → decide now made (at history k).edit ≡ outcome → decide base (take k history) (at history k).edit ≡ outcome
  moved outcome e =
      subst (λ h. decide base h (at history k).edit ≡ outcome) are.told (subst (λ parts. decide parts made (at history k).edit ≡ outcome) same e)

  -- the next one is accepted
  pub one_more : (made' : List Entry) → All (λ e. IsEdit e.edit) history → decide now made (at history k).edit ≡ None
      → made' ≡ made ++ at history k ∷ [] → AreMade base history made' (k + 1)
  one_more made' within accepted more =
      let front = take_more history k blank inside in
      record {
        told = more ∙ ap (λ h. h ++ at history k ∷ []) are.told ∙ sym front;
        sound = subst (IsSound base) (sym front)
            (sound_push base (take k history) (at history k) are.sound (record { within = within k blank inside; accepted = moved None accepted }));
      }

  -- or it is refused
  pub refused_next : (cause : EditCause) → decide now made (at history k).edit ≡ Some cause → IsRefusedAt base history (k + 1) cause
  refused_next cause refused = record {
    before = k;
    next = refl;
    sound = are.sound;
    entry = at history k;
    here = slice_get-get_or history k blank inside;
    refused = moved (Some cause) refused;
  }
