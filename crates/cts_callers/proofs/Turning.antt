-- What one step of a caller leaves.
use Rattle.std.proofs.Common.{◌≡◌, ◌≢◌, ℕ, ◌+◌, ◌-◌, List, [], ◌∷◌, ◌++◌, take, length, slice_get, Some, None, IfSome, refl, sym, ap, ◌∙◌, subst, arith, length-append}
use mathlib.Core.List.{IsPrefix}
use Rattle.std.proofs.lemmas.List.{take_all, take-append-le, get_or_at}
use Rattle.std.proofs.lemmas.Option.{slice_get-get_or}
use Rattle.cts_list.proofs.Prefixes.{prefix_length}
use Rattle.cts_instance.specs.declared.parts.Parts.{Parts}
use Rattle.cts_instance.specs.Validity.{with_sinks}
use Rattle.cts_elmore.specs.Figures.{AreFigures}
use Rattle.cts_plain.specs.declared.end.NoTree.{NoTree as Why}
use Rattle.cts_plain.specs.declared.end.NoTree.TheVariants as why
use Rattle.cts_plain.specs.Ends.{Ends}
use Rattle.cts_plain.specs.Synthesis.{IsSynthesis, made}
use Rattle.cts_edit.specs.declared.edit.Edit.{Edit}
use Rattle.cts_edit.specs.declared.edit.Entry.{Entry}
use Rattle.cts_edit.specs.declared.reply.EditReply.{EditReply}
use Rattle.cts_edit.specs.declared.reply.EditReply.TheVariants.{Accepted, Refused, NoMemory}
use Rattle.cts_design.specs.Edits.{after}
use Rattle.cts_design.specs.Decide.{decide}
use Rattle.cts_design.specs.Passes.{IsEdited, made_in, version_in}
use Rattle.cts_memo.specs.declared.entry.MemoEntry.{MemoEntry}
use Rattle.cts_topo.specs.Topology.{shape_of}
use Rattle.cts_plain.specs.Totals.{AreTotalsOver}
use Rattle.cts_session.specs.declared.draw.VersionTotals.{VersionTotals}
use Rattle.cts_session.specs.declared.draw.TreeEnd.TheVariants.{None as no_tree}
use Rattle.cts_session.specs.Desks.{Known, base_of, known_by, version_of}
use Rattle.cts_session.specs.Draws.{EndsDraw, IsSummedUp}
use Rattle.cts_session.specs.Sessions.{AtDesk, edits_of}
use Rattle.cts_script.specs.declared.script.Act.TheVariants.{Change, Draw}
use Rattle.cts_history.specs.declared.reply.Reply.TheVariants.{Edited, Drew, NoTree}
use Rattle.cts_history.specs.Replies.{IsEntry, accepted_version, at_version, entry_of, version_of as told_by}
use Rattle.cts_callers.specs.Turns.{IsNext, Keeps}
use Rattle.cts_history.specs.Legal.{accepted}
use Rattle.cts_history.proofs.Once.{accepted-none, accepted-some, made_some, refused_none, drew_none, no_tree_none}

-- the edit that was appended is the entry of its version
appended : (base : Parts) (met after : List Entry) (entry : Entry) (v : ℕ) → after ≡ met ++ entry ∷ [] → v ≡ length met + 1 → decide base met entry.edit ≡ None
    → IsEntry base after entry v
appended base met after entry v is version accepts =
    let place : v - 1 ≡ length met = omega (arith, version) in
    let front : take (v - 1) after ≡ met =
    (λ z. take (place z) (is z)) ∙ take-append-le (length met) met (entry ∷ []) (omega arith) ∙ take_all (length met) met (omega arith) in
    record {
      some = omega (arith, version);
      here = (λ z. slice_get (is z) (place z))
          ∙ slice_get-get_or (met ++ entry ∷ []) (length met) entry (omega (arith, length-append met (entry ∷ [])))
          ∙ ap Some (get_or_at met entry [] entry (length met) refl);
      accepted = ap (λ l. decide base l entry.edit) front ∙ accepts;
    }

module _ (old new : AtDesk) (desk : new.desk ≡ old.desk) (caller : new.caller ≡ old.caller) where
  module _ (line : ℕ) (edit : Edit) (goes_on : IsPrefix (edits_of old) (edits_of new)) where
    abbrev pub entry : Entry
    entry = entry_of old.caller line edit

    keeps_change : (reply : EditReply) (n : ℕ) → made_in reply ≡ n
        → known_by new.hands ≡ record (known_by old.hands) { edits = edits_of new; edits_made = (known_by old.hands).edits_made + made_in reply }
        → Keeps old new n
    keeps_change reply n one known = record {
      desk = desk;
      caller = caller;
      edits = goes_on;
      memo_share = ap (λ (k : Known). k.memo_share) known;
      design_share = ap (λ (k : Known). k.design_share) known;
      count = ap (λ (k : Known). k.edits_made) known ∙ ap (λ m. (known_by old.hands).edits_made + m) one;
    }

    pub next_change : (reply : EditReply) → (reply ≡ NoMemory → ⊥)
        → IsEdited (base_of old.desk) (edits_of old) entry reply (edits_of new)
        → IfSome (version_in reply) (λ version. version ≡ length (edits_of new))
        → known_by new.hands ≡ record (known_by old.hands) { edits = edits_of new; edits_made = (known_by old.hands).edits_made + made_in reply }
        → IsNext old new (record { line = line; act = Change edit }) (Edited line reply)
    unfolding told_by accepted_version
    next_change (Accepted v) some edited version known = record {
      keeps = keeps_change (Accepted v) (length (accepted (Edited line (Accepted v) ∷ [])))
          (sym (ap length (accepted-some (Edited line (Accepted v)) [] v (made_some line v)))) known;
      right = (refl, appended (base_of old.desk) edited.met (edits_of new) entry v edited.after (edited.decided.1) (edited.decided.0));
      version = version;
      later = λ w made.
          let same : v ≡ w = cc (made) in
          omega (arith, same, edited.decided.1, prefix_length (edits_of old) edited.met edited.goes_on);
    }
    next_change (Refused cause v) some edited version known = record {
      keeps = keeps_change (Refused cause v) (length (accepted (Edited line (Refused cause v) ∷ [])))
          (sym (ap length (accepted-none (Edited line (Refused cause v)) [] (refused_none line cause v)))) known;
      right = (
        refl,
        record {
          within = omega (arith, version);
          refused =
              let whole : take v (edits_of new) ≡ edited.met = take_all v (edits_of new) (omega (arith, version)) ∙ edited.after in
              ap (λ l. decide (base_of old.desk) l edit) whole ∙ edited.decided.0;
        },
      );
      version = version;
      later = λ w made. absurd (cc (made));
    }
    next_change NoMemory some edited version known = absurd (some refl)

  module _ (line : ℕ) (goes_on : IsPrefix (edits_of old) (edits_of new))
      (known : (entries : List MemoEntry) × (count : ℕ)
      × (known_by new.hands ≡ record (known_by old.hands) { entries = entries; entries_made = count; edits = edits_of new })) where
    pub keeps_draw : Keeps old new 0
    keeps_draw = record {
      desk = desk;
      caller = caller;
      edits = goes_on;
      memo_share = ap (λ (k : Known). k.memo_share) (known.2);
      design_share = ap (λ (k : Known). k.design_share) (known.2);
      count = ap (λ (k : Known). k.edits_made) (known.2) ∙ (let same : (known_by old.hands).edits_made ≡ (known_by old.hands).edits_made + 0 = omega arith in same);
    }

    at_end : (version : ℕ) → version ≡ length (edits_of new) → version_of (base_of old.desk) (edits_of new) ≡ at_version (base_of old.desk) (edits_of new) version
    at_end version is =
        ap (λ l. with_sinks (base_of old.desk) (after (base_of old.desk).sinks l)) (sym (take_all version (edits_of new) (omega (arith, is))))

    pub next_draw : (summed : VersionTotals) → IsSummedUp (base_of old.desk) (edits_of new) summed
        → IsNext old new (record { line = line; act = Draw }) (Drew line summed.version summed.totals.skew summed.totals.wire)
    unfolding told_by
    next_draw summed is =
        let skew : ℕ = summed.totals.skew in
        let wire : ℕ = summed.totals.wire in
        let at : Parts = version_of (base_of old.desk) (edits_of new) in
        let told : AreTotalsOver at (shape_of at.sinks) summed.totals = is.totals in
        record {
          keeps = subst (Keeps old new)
              (sym (ap length (accepted-none (Drew line summed.version skew wire) [] (drew_none line summed.version skew wire)))) keeps_draw;
          right = (
            refl,
            record {
              within = omega (arith, is.version);
              tree = told.tree;
              is_tree = subst (λ i. IsSynthesis i (made told.tree)) (at_end summed.version is.version) told.is_tree;
              figures = told.figures;
              are_figures = subst (λ i. AreFigures i told.tree told.figures) (at_end summed.version is.version) told.are_figures;
              skew_is = told.skew_is;
              wire_is = told.wire_is;
            },
          );
          version = is.version;
          later = λ w some. absurd (let e : None ≡ Some w = sym (drew_none line summed.version skew wire) ∙ some in cc);
        }

    pub end_is : (version : ℕ) (end : Why) → EndsDraw (base_of old.desk) (edits_of new) (no_tree version end)
        → (version ≡ length (edits_of new)) × Ends (version_of (base_of old.desk) (edits_of new)) end × (end ≢ why.NoMemory)
    end_is version (why.Beyond node) ends = (ends.0, ends.1, λ e. absurd (cc (e)))
    end_is version (why.Cut node) ends = (ends.0, ends.1, λ e. absurd (cc (e)))
    end_is version why.NoMemory ends = absurd ends

    pub next_no_tree : (version : ℕ) (end : Why) → EndsDraw (base_of old.desk) (edits_of new) (no_tree version end)
        → IsNext old new (record { line = line; act = Draw }) (NoTree line version end)
    unfolding told_by
    next_no_tree version end ends =
        let is = end_is version end ends in
        record {
          keeps = subst (Keeps old new) (sym (ap length (accepted-none (NoTree line version end) [] (no_tree_none line version end)))) keeps_draw;
          right = (
            refl,
            record {
              within = omega (arith, is.0);
              ends = subst (λ i. Ends i end) (at_end version (is.0)) (is.1);
              told = is.2;
            },
          );
          version = is.0;
          later = λ w some. absurd (let e : None ≡ Some w = sym (no_tree_none line version end) ∙ some in cc);
        }
