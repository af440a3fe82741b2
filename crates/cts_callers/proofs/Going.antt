-- A caller who goes through a script, step after step.
use Rattle.std.proofs.Common.{◌≡◌, ℕ, ◌+◌, ◌<◌, ◌≤◌, List, [], ◌∷◌, ◌++◌, length, get_or, All, refl, ap, ◌∙◌, subst, arith, length-append}
use Rattle.std.proofs.lemmas.List.Elements.{All-push, filter_map-append}
use Rattle.std.proofs.lemmas.List.Quantifiers.{all_pairs_push}
use Rattle.cts_postorder.proofs.Zips.{all_zip-push}
use Rattle.cts_list.proofs.Prefixes.{prefix_self, prefix_trans, prefix_length}
use Rattle.cts_session.specs.Desks.{base_of}
use Rattle.cts_session.specs.Sessions.{AtDesk, edits_of}
use Rattle.cts_script.specs.declared.script.ScriptStep.{ScriptStep}
use Rattle.cts_history.specs.declared.reply.Reply.{Reply}
use Rattle.cts_history.specs.Replies.{IsReply, accepted_version, version_of}
use Rattle.cts_history.specs.Legal.{Follows, IsAnswered, accepted}
use Rattle.cts_callers.specs.Turns.{IsNext, Keeps}
use Rattle.cts_history.proofs.Longer.{replies_stay}

-- so far these steps are answered, and no reply tells a later version than the session has seen
pub record Gone (old now : AtDesk) (steps : List ScriptStep) (replies : List Reply) : Type 0 where
  pub keeps : Keeps old now (length (accepted replies))
  pub answered : IsAnswered (base_of old.desk) (edits_of now) old.caller steps replies
  pub told : All (λ r. version_of r ≤ length (edits_of now)) replies

pub gone_start : (session : AtDesk) → Gone session session [] []
gone_start session = record {
  keeps = record {
    desk = refl;
    caller = refl;
    edits = prefix_self (edits_of session);
    memo_share = refl;
    design_share = refl;
    count = omega arith;
  };
  answered = record { each = tt; rise = λ i j d lt h. absurd (omega arith) };
  told = λ k d h. absurd (omega arith);
}

pub keeps_on : (first second third : AtDesk) (m n k : ℕ) → k ≡ m + n → Keeps first second m → Keeps second third n → Keeps first third k
keeps_on first second third m n k sum p q = record {
  desk = q.desk ∙ p.desk;
  caller = q.caller ∙ p.caller;
  edits = prefix_trans (edits_of first) (edits_of second) (edits_of third) p.edits q.edits;
  memo_share = q.memo_share ∙ p.memo_share;
  design_share = q.design_share ∙ p.design_share;
  count = omega (arith, q.count, p.count, sum);
}

module _ (old mid new : AtDesk) (steps : List ScriptStep) (replies : List Reply) (step : ScriptStep) (reply : Reply) (gone : Gone old mid steps replies)
    (next : IsNext mid new step reply) where
  right : IsReply (base_of old.desk) (edits_of new) old.caller step reply
  right =
      subst (λ (c : ℕ). IsReply (base_of old.desk) (edits_of new) c step reply) gone.keeps.caller
      (subst (λ k. IsReply (base_of k) (edits_of new) mid.caller step reply) gone.keeps.desk next.right)

  follows : (k : ℕ) (d : Reply) → k < length replies → Follows (get_or replies k d) reply
  follows k d h = record {
    no_earlier = omega (arith, gone.told k d h, next.version, prefix_length (edits_of mid) (edits_of new) next.keeps.edits);
    accepted_later = λ w made. let late = next.later w made in omega (arith, gone.told k d h, late);
  }

  pub gone_more : Gone old new (steps ++ step ∷ []) (replies ++ reply ∷ [])
  gone_more = record {
    keeps = keeps_on old mid new (length (accepted replies)) (length (accepted (reply ∷ []))) (length (accepted (replies ++ reply ∷ [])))
        (ap length (filter_map-append accepted_version replies (reply ∷ [])) ∙ length-append (accepted replies) (accepted (reply ∷ [])))
        gone.keeps next.keeps;
    answered = record {
      each = all_zip-push (IsReply (base_of old.desk) (edits_of new) old.caller) steps replies step reply
          (replies_stay (base_of old.desk) (edits_of mid) (edits_of new) next.keeps.edits old.caller steps replies gone.answered.each) right;
      rise = all_pairs_push Follows replies reply gone.answered.rise follows;
    };
    told = All-push (λ r. version_of r ≤ length (edits_of new)) replies reply
        (λ k d h. omega (arith, gone.told k d h, prefix_length (edits_of mid) (edits_of new) next.keeps.edits))
        (omega (arith, next.version));
  }
