-- The last tree of a run, and the run.
use Rattle.std.proofs.Common.{◌≡◌, ℕ, List, length, Ok, Err, OnOk, refl, sym, ap, subst, arith}
use mathlib.Core.List.{IsPrefix}
use Rattle.std.proofs.lemmas.Result.{IfOk-at_ok}
use Rattle.cts_instance.specs.declared.parts.Parts.{Parts}
use Rattle.cts_instance.specs.Validity.{IsValid, with_sinks}
use Rattle.cts_plain.specs.declared.end.NoTree.{NoTree as Why}
use Rattle.cts_memo.specs.declared.entry.MemoEntry.{MemoEntry}
use Rattle.cts_memo.specs.Sound.{IsSound}
use Rattle.cts_memo.specs.Tables.{told_by}
use Rattle.cts_edit.specs.declared.edit.Entry.{Entry}
use Rattle.cts_design.specs.Edits.{after}
use Rattle.cts_design.specs.Sound.{IsSound as IsHistory}
use Rattle.cts_session.specs.declared.desk.Desk.{Desk}
use Rattle.cts_session.specs.declared.desk.Hands.{Hands}
use Rattle.cts_session.specs.declared.draw.Drawn.{Drawn}
use Rattle.cts_session.specs.declared.draw.TreeEnd.TheVariants.{None as no_tree}
use Rattle.cts_session.specs.Desks.{IsTableOf, Known, at_start, base_of, known_by, version_of}
use Rattle.cts_session.specs.Draws.{EndsDraw, IsDrawn, KnowsTree}
use Rattle.cts_session.specs.Sessions.{AtDesk, at_desk, edits_of, entries_of, seen_version}
use Rattle.cts_script.specs.declared.script.ScriptStep.{ScriptStep}
use Rattle.cts_callers.specs.declared.callers.Served.{Served}
use Rattle.cts_callers.specs.declared.edit.Run.{Run}
use Rattle.cts_history.specs.declared.reply.Reply.{Reply}
use Rattle.cts_history.specs.Legal.{AreAnswered, all_accepted}
use Rattle.cts_callers.specs.Runs.{IsLastTree, IsRun, IsSynthesisOf}
use Rattle.cts_callers.specs.Turns.{AreServed, HandsKeep}
use Rattle.cts_history.specs.Legal.{lists_of}
use Rattle.cts_history.proofs.Longer.{all_answered_stay}
use Rattle.cts_history.proofs.Once.{all_distinct}
use Rattle.cts_callers.proofs.Turning.{end_is, keeps_draw}

module _ (old new : AtDesk) (desk : new.desk ≡ old.desk) (caller : new.caller ≡ old.caller) (goes_on : IsPrefix (edits_of old) (edits_of new))
    (known : (entries : List MemoEntry) × (count : ℕ)
    × (known_by new.hands ≡ record (known_by old.hands) { entries = entries; entries_made = count; edits = edits_of new })) where
  pub last_drawn : (drawn : Drawn) → IsDrawn (base_of old.desk) (edits_of new) drawn → KnowsTree (seen_version new) (entries_of new)
      → IsLastTree old new (Ok (drawn.tree, drawn.figures))
  last_drawn drawn is remembered = record {
    keeps = keeps_draw old new desk caller 0 goes_on known;
    is_synthesis = record {
      tree = record {
        version = refl;
        valid = is.valid;
        tree = is.tree;
        figures = is.figures;
        sound = is.sound;
        one_each = is.one_each;
        in_range = is.in_range;
        in_die = is.in_die;
      };
      no_tree = tt;
      told = tt;
    };
    known = subst (λ d. KnowsTree (version_of (base_of d) (edits_of new)) (entries_of new)) desk remembered;
  }

  pub last_none : (version : ℕ) (end : Why) → EndsDraw (base_of old.desk) (edits_of new) (no_tree version end) → IsLastTree old new (Err end)
  last_none version end ends =
      let is = end_is old new desk caller 0 goes_on known version end ends in
      record {
        keeps = keeps_draw old new desk caller 0 goes_on known;
        is_synthesis = record { tree = tt; no_tree = is.1; told = is.2 };
        known = tt;
      }

-- what is told of a desk that is closed
pub record AreClosed (base : Parts) (known : Known) (run : Run) : Type 0 where
  pub instance_is : run.instance ≡ base
  pub table : IsTableOf base.params known.entries run.table
  pub history : run.history.items ≡ known.edits
  pub count : length run.history.items ≡ known.edits_made
  pub sound : IsHistory base run.history.items
  pub sinks : run.sinks.items ≡ after base.sinks run.history.items
  pub valid : IsValid (with_sinks base run.sinks.items)

module _ (desk : Desk) (opening : Hands) (scripts : List (List ScriptStep)) (served : Served) (old new : AtDesk) (run : Run)
    (start : known_by opening ≡ at_start) (are : AreServed desk opening 1 scripts served) (replies : served.replies ≡ Ok run.replies)
    (from : old ≡ at_desk desk served.hands 0) (last : IsLastTree old new run.synthesis) (closed : AreClosed (base_of desk) (known_by new.hands) run) where
  desk_is : old.desk ≡ desk
  desk_is = ap (λ (s : AtDesk). s.desk) from

  hands_are : known_by old.hands ≡ known_by served.hands
  hands_are = ap (λ (s : AtDesk). known_by s.hands) from

  told : List (List Reply)
  told = lists_of run.replies.items

  pub run_right : IsRun (base_of desk) scripts run
  run_right =
      let keep = IfOk-at_ok (λ r. HandsKeep opening served.hands (length (all_accepted (lists_of r.items)))) replies are.keeps in
      let answered = IfOk-at_ok (λ r. AreAnswered (base_of desk) (known_by served.hands).edits 1 scripts (lists_of r.items)) replies are.answered in
      let longer : IsPrefix (known_by served.hands).edits run.history.items =
      subst (IsPrefix (known_by served.hands).edits) (sym closed.history)
      (subst (λ (k : Known). IsPrefix k.edits (edits_of new)) hands_are last.keeps.edits) in
      let right : AreAnswered (base_of desk) run.history.items 1 scripts (lists_of run.replies.items) =
      all_answered_stay (base_of desk) (known_by served.hands).edits run.history.items longer 1 scripts (lists_of run.replies.items) answered in
      record {
        instance_is = closed.instance_is;
        sound = closed.sound;
        legal = record {
          answered = right;
          count = omega (
            arith,
            closed.count,
            last.keeps.count,
            ap (λ (k : Known). k.edits_made) hands_are,
            keep.count,
            ap (λ (k : Known). k.edits_made) start,
          );
          distinct = all_distinct (base_of desk) run.history.items 1 scripts (lists_of run.replies.items) right;
        };
        sinks_are = closed.sinks;
        valid = closed.valid;
        is_synthesis =
            subst (λ (d : Desk). IsSynthesisOf (base_of d) run.history.items run.synthesis) desk_is
            (subst (λ l. IsSynthesisOf (base_of old.desk) l run.synthesis) (sym closed.history) last.is_synthesis);
        memo = record {
          base = closed.table.base;
          told = refl;
          sound = subst (IsSound (base_of desk).params) (sym closed.table.told) closed.table.sound;
        };
        known =
            subst (λ (d : Desk). OnOk run.synthesis (KnowsTree (version_of (base_of d) run.history.items) (told_by run.table))) desk_is
            (subst (λ (k : List Entry × List MemoEntry). OnOk run.synthesis (KnowsTree (version_of (base_of old.desk) (k.0)) (k.1)))
            (λ z. (sym closed.history z, sym closed.table.told z)) last.known);
      }
