-- What is right at a history is right at every history that begins with it. What begins a sound history is sound, so that its
-- versions are valid.
use Rattle.std.proofs.Common.{◌≡◌, ℕ, ◌+◌, ◌-◌, ◌<◌, ◌≤◌, List, [], ◌∷◌, ◌++◌, take, length, slice_get, Some, sym, ap, ◌∙◌, subst, arith, length-append}
use mathlib.Core.List.{IsPrefix}
use Rattle.std.specs.List.{AllZip}
use Rattle.std.proofs.lemmas.List.{take-append-le, get_or_append_left}
use Rattle.std.proofs.lemmas.Option.{slice_get-get_or, slice_get_within, get_or_from_slice_get}
use Rattle.cts_list.proofs.Prefixes.{prefix_length}
use Rattle.cts_list.proofs.Prefixes.{front_of}
use Rattle.cts_instance.specs.declared.parts.Parts.{Parts}
use Rattle.cts_instance.specs.Validity.{IsValid, with_sinks}
use Rattle.cts_elmore.specs.Figures.{AreFigures}
use Rattle.cts_plain.specs.declared.end.NoTree.{NoTree as Why}
use Rattle.cts_plain.specs.Ends.{Ends}
use Rattle.cts_plain.specs.Synthesis.{IsSynthesis, made}
use Rattle.cts_edit.specs.declared.edit.Edit.{Edit}
use Rattle.cts_edit.specs.declared.edit.EditCause.{EditCause}
use Rattle.cts_edit.specs.declared.edit.Entry.{Entry}
use Rattle.cts_edit.specs.declared.reply.EditReply.{EditReply}
use Rattle.cts_edit.specs.declared.reply.EditReply.TheVariants.{Accepted, Refused, NoMemory}
use Rattle.cts_edit.specs.Edits.{after}
use Rattle.cts_edit.specs.Decide.{decide}
use Rattle.cts_edit.specs.Sound.{IsAccepted, IsSound as IsHistory}
use Rattle.cts_edit.proofs.Validities.{sound_valid}
use Rattle.cts_script.specs.declared.script.Act.{Act}
use Rattle.cts_script.specs.declared.script.Act.TheVariants.{Change, Draw}
use Rattle.cts_script.specs.declared.script.ScriptStep.{ScriptStep}
use Rattle.cts_history.specs.declared.reply.Reply.{Reply}
use Rattle.cts_history.specs.declared.reply.Reply.TheVariants.{Edited, Drew, NoTree}
use Rattle.cts_history.specs.Replies.{Answers, HasNoTree, IsDrawing, IsEntry, IsRefusal, IsReply, IsReplyToChange, at_version, entry_of}
use Rattle.cts_history.specs.Legal.{AreAnswered, IsAnswered}
use Rattle.cts_history.specs.Laws.{AnswersStay}

module _ (base : Parts) (history longer : List Entry) (more : IsPrefix history longer) where
  at_longer : (n : ℕ) (e : Entry) → slice_get history n ≡ Some e → slice_get longer n ≡ Some e
  at_longer n e here =
      let h : n < length history = slice_get_within history n e here in
      let same : slice_get longer n ≡ slice_get (history ++ more.0) n = ap (λ l. slice_get l n) (sym more.1) in
      same ∙ slice_get-get_or (history ++ more.0) n e (omega (arith, length-append history more.0, h))
      ∙ ap Some (get_or_append_left history more.0 e n h ∙ get_or_from_slice_get history n e e here)

  take_longer : (v : ℕ) → v ≤ length history → take v history ≡ take v longer
  take_longer v h = sym (take-append-le v history more.0 h) ∙ ap (take v) more.1

  within_longer : (v : ℕ) → v ≤ length history → v ≤ length longer
  within_longer v h = omega (arith, h, prefix_length history longer more)

  entry_stays : (entry : Entry) (v : ℕ) → IsEntry base history entry v → IsEntry base longer entry v
  entry_stays entry v is =
      let h = slice_get_within history (v - 1) entry is.here in
      record {
        some = is.some;
        here = at_longer (v - 1) entry is.here;
        accepted = ap (λ front. decide base front entry.edit) (sym (take_longer (v - 1) (omega (arith, h)))) ∙ is.accepted;
      }

  refusal_stays : (edit : Edit) (cause : EditCause) (v : ℕ) → IsRefusal base history edit cause v → IsRefusal base longer edit cause v
  refusal_stays edit cause v is = record {
    within = within_longer v is.within;
    refused = ap (λ front. decide base front edit) (sym (take_longer v is.within)) ∙ is.refused;
  }

  same_version : (v : ℕ) → v ≤ length history → at_version base history v ≡ at_version base longer v
  same_version v h = ap (λ front. with_sinks base (after base.sinks front)) (take_longer v h)

  drawing_stays : (v skew wire : ℕ) → IsDrawing base history v skew wire → IsDrawing base longer v skew wire
  drawing_stays v skew wire is = record {
    within = within_longer v is.within;
    tree = is.tree;
    is_tree = subst (λ i. IsSynthesis i (made is.tree)) (same_version v is.within) is.is_tree;
    figures = is.figures;
    are_figures = subst (λ i. AreFigures i is.tree is.figures) (same_version v is.within) is.are_figures;
    skew_is = is.skew_is;
    wire_is = is.wire_is;
  }

  no_tree_stays : (v : ℕ) (end : Why) → HasNoTree base history v end → HasNoTree base longer v end
  no_tree_stays v end is = record {
    within = within_longer v is.within;
    ends = subst (λ i. Ends i end) (same_version v is.within) is.ends;
    told = is.told;
  }

  reply_to_change_stays : (entry : Entry) (reply : EditReply) → IsReplyToChange base history entry reply → IsReplyToChange base longer entry reply
  reply_to_change_stays entry (Accepted v) is = entry_stays entry v is
  reply_to_change_stays entry (Refused cause v) is = refusal_stays entry.edit cause v is
  reply_to_change_stays entry NoMemory is = absurd is

  answer_stays : (caller line : ℕ) (act : Act) (reply : Reply) → Answers base history caller line act reply → Answers base longer caller line act reply
  answer_stays caller line (Change edit) (Edited l reply) is = (is.0, reply_to_change_stays (entry_of caller line edit) reply (is.1))
  answer_stays caller line (Change edit) (Drew l v skew wire) is = absurd is
  answer_stays caller line (Change edit) (NoTree l v end) is = absurd is
  answer_stays caller line Draw (Edited l reply) is = absurd is
  answer_stays caller line Draw (Drew l v skew wire) is = (is.0, drawing_stays v skew wire (is.1))
  answer_stays caller line Draw (NoTree l v end) is = (is.0, no_tree_stays v end (is.1))

  pub replies_stay : (caller : ℕ) (steps : List ScriptStep) (replies : List Reply) → AllZip (IsReply base history caller) steps replies
      → AllZip (IsReply base longer caller) steps replies
  replies_stay caller [] [] all = all
  replies_stay caller [] (r ∷ replies) all = absurd all
  replies_stay caller (s ∷ steps) [] all = absurd all
  replies_stay caller (s ∷ steps) (r ∷ replies) all = (answer_stays caller s.line s.act r (all.0), replies_stay caller steps replies (all.1))

  pub answered_stays : (caller : ℕ) (steps : List ScriptStep) (replies : List Reply) → IsAnswered base history caller steps replies
      → IsAnswered base longer caller steps replies
  answered_stays caller steps replies is = record { each = replies_stay caller steps replies is.each; rise = is.rise }

  pub all_answered_stay : (caller : ℕ) (scripts : List (List ScriptStep)) (replies : List (List Reply)) → AreAnswered base history caller scripts replies
      → AreAnswered base longer caller scripts replies
  unfolding AreAnswered
  all_answered_stay caller [] [] are = are
  all_answered_stay caller [] (r ∷ replies) are = absurd are
  all_answered_stay caller (s ∷ scripts) [] are = absurd are
  all_answered_stay caller (s ∷ scripts) (r ∷ replies) are =
      (answered_stays caller s r (are.0), all_answered_stay (caller + 1) scripts replies (are.1))

  -- what begins a sound history is sound
  pub sound_front : IsHistory base longer → IsHistory base history
  sound_front sound = record {
    each = λ n e here.
        let h = slice_get_within history n e here in
        subst (λ front. IsAccepted base front e.edit) (sym (take_longer n (omega (arith, h)))) (sound.each n e (at_longer n e here));
  }

pub answers_stay_lem : AnswersStay
answers_stay_lem base history longer caller scripts replies more are = all_answered_stay base history longer more caller scripts replies are

-- each version of a sound history is valid
pub version_valid : (base : Parts) (history : List Entry) (version : ℕ) → IsValid base → IsHistory base history
    → IsValid (at_version base history version)
version_valid base history version valid sound =
    sound_valid base (take version history) valid (sound_front base (take version history) history (front_of version history) sound)
