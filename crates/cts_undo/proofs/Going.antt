-- One step more of a replay.
use Rattle.std.proofs.Common.{◌≡◌, ℕ, ◌+◌, ◌-◌, ◌<◌, List, [], ◌∷◌, ◌++◌, length, take, drop, get_or, Option, Some, None, refl, sym, subst, ap, ◌∙◌, length-append, append-nil}
use Rattle.std.proofs.lemmas.List.{take_more}
use Rattle.cts_edit.specs.declared.edit.EditCause.{EditCause}
use Rattle.cts_edit.specs.declared.edit.Entry.{Entry}
use Rattle.cts_edit.specs.declared.reply.EditReply.TheVariants.{Accepted, Refused, NoMemory}
use Rattle.cts_edit.specs.Decide.{decide}
use Rattle.cts_undo.specs.Replay.{State}
use Rattle.cts_script.specs.declared.script.Act.TheVariants.{Change, Draw}
use Rattle.cts_script.specs.declared.replay.ReplayAct.{ReplayAct}
use Rattle.cts_script.specs.declared.replay.ReplayAct.TheVariants.{Step, Undo, Redo}
use Rattle.cts_script.specs.declared.replay.ReplayStep.{ReplayStep}
use Rattle.cts_history.specs.declared.reply.Reply.TheVariants.{Edited, Drew, NoTree}
use Rattle.cts_history.specs.Replies.{entry_of}
use Rattle.cts_undo.specs.declared.reply.ReplayReply.{ReplayReply}
use Rattle.cts_undo.specs.declared.reply.ReplayReply.TheVariants.{Answered, Undone, Redone, Nothing}
use Rattle.cts_undo.specs.Answers.{AreReplies, IsReplyTo, after_act, after_steps, changed_by, next, told_version}

-- the instance stays
changed_base : (o : Option EditCause) (s : State) (entry : Entry) → (changed_by o s entry).base ≡ s.base
changed_base None s entry = refl
changed_base (Some cause) s entry = refl

act_base : (s : State) (line : ℕ) (act : ReplayAct) → (after_act s line act).base ≡ s.base
act_base s line (Step (Change edit)) = changed_base (decide s.base s.done edit) s (entry_of 1 line edit)
act_base s line (Step Draw) = refl
act_base s line Undo = refl
act_base s line Redo = refl

pub steps_base : (s : State) (steps : List ReplayStep) → (after_steps s steps).base ≡ s.base
steps_base s [] = refl
steps_base s (step ∷ steps) = steps_base (next s step) steps ∙ act_base s step.line step.act

-- the version that a reply tells is how many changes are done after its step
pub version_told : (s : State) (line : ℕ) (act : ReplayAct) (reply : ReplayReply) → IsReplyTo s line act reply
    → told_version reply ≡ length (after_act s line act).done
version_told s line (Step (Change edit)) (Answered (Edited l (Accepted version))) is =
    is.1.1 ∙ sym (length-append s.done (entry_of 1 line edit ∷ []))
    ∙ ap (λ o. length (changed_by o s (entry_of 1 line edit)).done) (sym is.1.0)
version_told s line (Step (Change edit)) (Answered (Edited l (Refused cause version))) is =
    is.1.1 ∙ ap (λ o. length (changed_by o s (entry_of 1 line edit)).done) (sym is.1.0)
version_told s line (Step (Change edit)) (Answered (Edited l NoMemory)) is = absurd (is.2 refl)
version_told s line (Step Draw) (Answered (Drew l version skew wire)) is = is.1
version_told s line (Step Draw) (Answered (NoTree l version end)) is = is.1
version_told s line Undo (Undone l version) is = is.2
version_told s line Undo (Nothing l version) is = is.2 ∙ ap (λ done. length (take (length done - 1) done)) (sym is.1)
version_told s line Redo (Redone l version) is = is.2
version_told s line Redo (Nothing l version) is =
    is.2 ∙ ap length (sym (append-nil s.done)) ∙ ap (λ undone. length (s.done ++ drop (length undone - 1) undone)) (sym is.1)
version_told s line act reply is = absurd is

pub steps_push : (s : State) (steps : List ReplayStep) (step : ReplayStep) → after_steps s (steps ++ step ∷ []) ≡ next (after_steps s steps) step
steps_push s [] step = refl
steps_push s (first ∷ steps) step = steps_push (next s first) steps step

pub replies_none : (s : State) → AreReplies s [] []
unfolding AreReplies
replies_none s = tt

pub replies_push : (s : State) (steps : List ReplayStep) (replies : List ReplayReply) (step : ReplayStep) (reply : ReplayReply)
    → AreReplies s steps replies → IsReplyTo (after_steps s steps) step.line step.act reply → AreReplies s (steps ++ step ∷ []) (replies ++ reply ∷ [])
unfolding AreReplies
replies_push s [] [] step reply all one = (one, tt)
replies_push s [] (r ∷ replies) step reply all one = absurd all
replies_push s (first ∷ steps) [] step reply all one = absurd all
replies_push s (first ∷ steps) (r ∷ replies) step reply all one = (all.0, replies_push (next s first) steps replies step reply all.1 one)

-- what holds before a step holds after it: the replies so far, with the one to this step ..
pub replies_on : (first s : State) (asked : List ReplayStep) (k : ℕ) (d : ReplayStep) (replies : List ReplayReply) (reply : ReplayReply)
    → k < length asked → s ≡ after_steps first (take k asked) → AreReplies first (take k asked) replies
    → IsReplyTo s (get_or asked k d).line (get_or asked k d).act reply → AreReplies first (take (k + 1) asked) (replies ++ reply ∷ [])
replies_on first s asked k d replies reply more stands all one =
    subst (λ steps. AreReplies first steps (replies ++ reply ∷ [])) (sym (take_more asked k d more))
    (replies_push first (take k asked) replies (get_or asked k d) reply all
    (subst (λ t. IsReplyTo t (get_or asked k d).line (get_or asked k d).act reply) stands one))

-- .. and the state
pub stands_on : (first s t : State) (asked : List ReplayStep) (k : ℕ) (d : ReplayStep) → k < length asked
    → s ≡ after_steps first (take k asked) → t ≡ after_act s (get_or asked k d).line (get_or asked k d).act
    → t ≡ after_steps first (take (k + 1) asked)
stands_on first s t asked k d more stands is =
    is ∙ ap (λ x. next x (get_or asked k d)) stands ∙ sym (steps_push first (take k asked) (get_or asked k d))
    ∙ ap (after_steps first) (sym (take_more asked k d more))
