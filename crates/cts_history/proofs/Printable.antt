-- Legal histories and their replies can be printed.
use Rattle.std.proofs.Common.{◌≢◌, ℕ, ◌+◌, ◌^◌, ◌≤◌, List, [], ◌∷◌, get_or, arith}
use Rattle.std.specs.List.{All}
use Rattle.std.proofs.lemmas.Option.{slice_get-get_or}
use Rattle.cts_postorder.proofs.Zips.{all_zip-all}
use Rattle.cts_instance.specs.declared.parts.Parts.{Parts}
use Rattle.cts_instance.specs.Validity.{IsValid}
use Rattle.cts_elmore.specs.Sound.{IsSound}
use Rattle.cts_elmore.proofs.Limited.{totals_within}
use Rattle.cts_plain.proofs.Valid.{made_sound}
use Rattle.cts_edit.specs.declared.edit.Entry.{Entry}
use Rattle.cts_edit.specs.declared.reply.EditReply.{EditReply}
use Rattle.cts_edit.specs.declared.reply.EditReply.TheVariants.{Accepted, Refused, NoMemory}
use Rattle.cts_edit.specs.Edits.{IsEdit}
use Rattle.cts_edit.specs.Sound.{IsSound as IsHistory}
use Rattle.cts_script.specs.declared.script.Act.{Act}
use Rattle.cts_script.specs.declared.script.Act.TheVariants.{Change, Draw}
use Rattle.cts_script.specs.declared.script.ScriptStep.{ScriptStep}
use Rattle.cts_history.specs.declared.reply.Reply.{Reply}
use Rattle.cts_history.specs.declared.reply.Reply.TheVariants.{Edited, Drew, NoTree}
use Rattle.cts_history.specs.Replies.{Answers, IsDrawing, IsReply, IsReplyToChange, at_version, entry_of}
use Rattle.cts_history.specs.Legal.{AreAnswered}
use Rattle.cts_history.proofs.Longer.{version_valid}
use Rattle.cts_history.specs.History.{IsPrintableReply}
use Rattle.cts_history.specs.Laws.{LegalHistoriesCanBePrinted}
use Rattle.cts_history.proofs.Lists.{all_none, all_then}

module _ (base : Parts) (history : List Entry) where
  edits_within : IsHistory base history → All (λ entry. IsEdit entry.edit) history
  edits_within sound k d h = (sound.each k (get_or history k d) (slice_get-get_or history k d h)).within

  changed_printable : (entry : Entry) (reply : EditReply) → IsReplyToChange base history entry reply → reply ≢ NoMemory
  changed_printable entry (Accepted version) is = λ same. absurd cc
  changed_printable entry (Refused cause version) is = λ same. absurd cc
  changed_printable entry NoMemory is = absurd is

  module _ (valid : IsValid base) (sound : IsHistory base history) where
    -- a tree that was drawn is sound, so its skew is within the limit of delays
    drawn_printable : (version skew wire : ℕ) → IsDrawing base history version skew wire → skew ≤ 10 ^ 37
    drawn_printable version skew wire is =
        let i : Parts = at_version base history version in
        let tree_sound : IsSound i is.tree = made_sound i is.tree (version_valid base history version valid sound) is.is_tree in
        let totals = totals_within i is.tree is.figures tree_sound.within is.are_figures in
        omega (arith, totals.2, is.skew_is)

    reply_printable : (caller line : ℕ) (act : Act) (reply : Reply) → Answers base history caller line act reply → IsPrintableReply reply
    reply_printable caller line (Change edit) (Edited l reply) is = changed_printable (entry_of caller line edit) reply (is.1)
    reply_printable caller line (Change edit) (Drew l version skew wire) is = absurd is
    reply_printable caller line (Change edit) (NoTree l version end) is = absurd is
    reply_printable caller line Draw (Edited l reply) is = absurd is
    reply_printable caller line Draw (Drew l version skew wire) is = drawn_printable version skew wire (is.1)
    reply_printable caller line Draw (NoTree l version end) is = is.1.told

    replies_printable : (caller : ℕ) (scripts : List (List ScriptStep)) (replies : List (List Reply))
        → AreAnswered base history caller scripts replies → All (λ one. All IsPrintableReply one) replies
    unfolding AreAnswered
    replies_printable caller [] [] are = all_none (λ one. All IsPrintableReply one)
    replies_printable caller [] (one ∷ others) are = absurd are
    replies_printable caller (steps ∷ scripts) [] are = absurd are
    replies_printable caller (steps ∷ scripts) (one ∷ others) are =
        all_then (λ one. All IsPrintableReply one) one others
        (all_zip-all (IsReply base history caller) IsPrintableReply
        (λ step reply is. reply_printable caller step.line step.act reply is) steps one are.0.each)
        (replies_printable (caller + 1) scripts others (are.1))

pub printable_lem : LegalHistoriesCanBePrinted
printable_lem base scripts history replies valid sound legal = record {
  edits = edits_within base history sound;
  each_reply = replies_printable base history valid sound 1 scripts replies legal.answered;
}
