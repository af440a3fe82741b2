-- A step of a replay has one reply at most, and so have all of its steps.
use Rattle.std.proofs.Common.{◌≡◌, ℕ, ◌+◌, ◌<◌, List, [], ◌∷◌, length, Option, Some, None, refl, sym, subst, ap, ap₂, ◌∙◌, arith}
use Rattle.cts_instance.specs.declared.parts.Parts.{Parts}
use Rattle.cts_elmore.specs.declared.figures.Figures.{Figures}
use Rattle.cts_elmore.specs.Figures.{AreFigures}
use Rattle.cts_elmore.proofs.Unique.{figures_one}
use Rattle.cts_plain.specs.declared.end.NoTree.{NoTree as Why}
use Rattle.cts_plain.specs.declared.end.NoTree.TheVariants as why
use Rattle.cts_plain.specs.Synthesis.{Synthesis, made, beyond, cut, IsSynthesis}
use Rattle.cts_edit.specs.declared.edit.Edit.{Edit}
use Rattle.cts_edit.specs.declared.edit.EditCause.{EditCause}
use Rattle.cts_edit.specs.declared.edit.Entry.{Entry}
use Rattle.cts_edit.specs.declared.reply.EditReply.{EditReply}
use Rattle.cts_edit.specs.declared.reply.EditReply.TheVariants.{Accepted, Refused, NoMemory}
use Rattle.cts_edit.specs.Decide.{decide}
use Rattle.cts_undo.specs.Replay.{State, after_undo, after_redo}
use Rattle.cts_script.specs.declared.script.Act.TheVariants.{Change, Draw}
use Rattle.cts_script.specs.declared.replay.ReplayAct.{ReplayAct}
use Rattle.cts_script.specs.declared.replay.ReplayAct.TheVariants.{Step, Undo, Redo}
use Rattle.cts_history.specs.declared.reply.Reply.TheVariants.{Edited, Drew, NoTree}
use Rattle.cts_history.specs.Replies.{HasNoTree, IsDrawing, at_version}
use Rattle.cts_undo.specs.declared.reply.ReplayReply.{ReplayReply}
use Rattle.cts_undo.specs.declared.reply.ReplayReply.TheVariants.{Answered, Undone, Redone, Nothing}
use Rattle.cts_undo.specs.Answers.{AreReplies, IsReplyTo, next}
use Rattle.cts_undo.specs.Laws.{RepliesAreOne}
use Rattle.cts_undo.proofs.OneSynthesis.{synthesis_one}

-- the reply to a change, by the cause that refuses it and by how many changes are done
abbrev decided : Option EditCause → ℕ → EditReply
decided None count = Accepted (count + 1)
decided (Some cause) count = Refused cause count

abbrev change_reply : State → ℕ → Edit → ReplayReply
change_reply s line edit = Answered (Edited line (decided (decide s.base s.done edit) (length s.done)))

change_is : (s : State) (line : ℕ) (edit : Edit) (reply : ReplayReply) → IsReplyTo s line (Step (Change edit)) reply
    → reply ≡ change_reply s line edit
change_is s line edit (Answered (Edited l (Accepted version))) is =
    ap₂ (λ l reply. Answered (Edited l reply)) is.0
    (ap Accepted is.1.1 ∙ ap (λ cause. decided cause (length s.done)) (sym is.1.0))
change_is s line edit (Answered (Edited l (Refused cause version))) is =
    ap₂ (λ l reply. Answered (Edited l reply)) is.0
    (ap (Refused cause) is.1.1 ∙ ap (λ cause. decided cause (length s.done)) (sym is.1.0))
change_is s line edit (Answered (Edited l NoMemory)) is = absurd (is.2 refl)
change_is s line edit reply is = absurd is

-- the reply to an undo or a redo of these changes: that there are none, or that the last of them is moved
abbrev moved : List Entry → ReplayReply → ReplayReply → ReplayReply
moved [] nothing done = nothing
moved (entry ∷ entries) nothing done = done

moved_some : (entries : List Entry) (nothing done : ReplayReply) → 0 < length entries → done ≡ moved entries nothing done
moved_some [] nothing done some = absurd (omega arith)
moved_some (entry ∷ entries) nothing done some = refl

moved_none : (entries : List Entry) (nothing done : ReplayReply) → entries ≡ [] → nothing ≡ moved entries nothing done
moved_none entries nothing done none = ap (λ entries. moved entries nothing done) (sym none)

abbrev undo_reply : State → ℕ → ReplayReply
undo_reply s line = moved s.done (Nothing line 0) (Undone line (length (after_undo s).done))

undo_is : (s : State) (line : ℕ) (reply : ReplayReply) → IsReplyTo s line Undo reply → reply ≡ undo_reply s line
undo_is s line (Undone l version) is = ap₂ Undone is.0 is.2 ∙ moved_some s.done _ _ is.1
undo_is s line (Nothing l version) is = ap₂ Nothing is.0 is.2 ∙ moved_none s.done _ _ is.1
undo_is s line reply is = absurd is

abbrev redo_reply : State → ℕ → ReplayReply
redo_reply s line = moved s.undone (Nothing line (length s.done)) (Redone line (length (after_redo s).done))

redo_is : (s : State) (line : ℕ) (reply : ReplayReply) → IsReplyTo s line Redo reply → reply ≡ redo_reply s line
redo_is s line (Redone l version) is = ap₂ Redone is.0 is.2 ∙ moved_some s.undone _ _ is.1
redo_is s line (Nothing l version) is = ap₂ Nothing is.0 is.2 ∙ moved_none s.undone _ _ is.1
redo_is s line reply is = absurd is

module _ (s : State) (line : ℕ) where
  -- the instance with the sinks after the changes that are done
  abbrev now : Parts
  now = at_version s.base s.done (length s.done)

  -- a reply to a draw tells what the synthesis comes to
  abbrev Tells : Synthesis → ReplayReply → Type 0
  Tells (made tree) reply =
      (figures : Figures) × AreFigures now tree figures
      × (reply ≡ Answered (Drew line (length s.done) figures.skew figures.wire_total))
  Tells (beyond k) reply = reply ≡ Answered (NoTree line (length s.done) (why.Beyond k))
  Tells (cut k) reply = reply ≡ Answered (NoTree line (length s.done) (why.Cut k))

  abbrev Drawn : ReplayReply → Type 0
  Drawn reply = (synthesis : Synthesis) × IsSynthesis now synthesis × Tells synthesis reply

  drew : (l version skew wire : ℕ) → l ≡ line → version ≡ length s.done → IsDrawing s.base s.done version skew wire
      → Drawn (Answered (Drew l version skew wire))
  drew l version skew wire line_is version_is is = (
    made is.tree,
    subst (λ v. IsSynthesis (at_version s.base s.done v) (made is.tree)) version_is is.is_tree,
    (
      is.figures,
      subst (λ v. AreFigures (at_version s.base s.done v) is.tree is.figures) version_is is.are_figures,
      ap₂ (λ l v. Answered (Drew l v skew wire)) line_is version_is
          ∙ ap₂ (λ a b. Answered (Drew line (length s.done) a b)) (sym is.skew_is) (sym is.wire_is),
    ),
  )

  no_tree : (l version : ℕ) (end : Why) → l ≡ line → version ≡ length s.done → HasNoTree s.base s.done version end
      → Drawn (Answered (NoTree l version end))
  no_tree l version (why.Beyond k) line_is version_is is = (
    beyond k,
    subst (λ v. IsSynthesis (at_version s.base s.done v) (beyond k)) version_is is.ends,
    ap₂ (λ l v. Answered (NoTree l v (why.Beyond k))) line_is version_is,
  )
  no_tree l version (why.Cut k) line_is version_is is = (
    cut k,
    subst (λ v. IsSynthesis (at_version s.base s.done v) (cut k)) version_is is.ends,
    ap₂ (λ l v. Answered (NoTree l v (why.Cut k))) line_is version_is,
  )
  no_tree l version why.NoMemory line_is version_is is = absurd (is.told refl)

  drawn : (reply : ReplayReply) → IsReplyTo s line (Step Draw) reply → Drawn reply
  drawn (Answered (Drew l version skew wire)) is = drew l version skew wire is.0 is.1 is.2
  drawn (Answered (NoTree l version end)) is = no_tree l version end is.0 is.1 is.2
  drawn reply is = absurd is

  tells_one : (synthesis : Synthesis) (a b : ReplayReply) → Tells synthesis a → Tells synthesis b → a ≡ b
  tells_one (made tree) a b p q =
      p.2
      ∙ ap (λ (f : Figures). Answered (Drew line (length s.done) f.skew f.wire_total)) (figures_one now tree p.0 q.0 p.1 q.1)
      ∙ sym q.2
  tells_one (beyond k) a b p q = p ∙ sym q
  tells_one (cut k) a b p q = p ∙ sym q

  drawn_one : (a b : ReplayReply) → Drawn a → Drawn b → a ≡ b
  drawn_one a b p q =
      tells_one q.0 a b (subst (λ synthesis. Tells synthesis a) (synthesis_one now p.0 q.0 p.1 q.1) p.2) q.2

reply_one : (s : State) (line : ℕ) (act : ReplayAct) (a b : ReplayReply) → IsReplyTo s line act a → IsReplyTo s line act b → a ≡ b
reply_one s line (Step (Change edit)) a b p q = change_is s line edit a p ∙ sym (change_is s line edit b q)
reply_one s line (Step Draw) a b p q = drawn_one s line a b (drawn s line a p) (drawn s line b q)
reply_one s line Undo a b p q = undo_is s line a p ∙ sym (undo_is s line b q)
reply_one s line Redo a b p q = redo_is s line a p ∙ sym (redo_is s line b q)

pub replies_one : RepliesAreOne
unfolding AreReplies
replies_one s [] [] [] p q = refl
replies_one s [] [] (b ∷ others) p q = absurd q
replies_one s [] (a ∷ replies) others p q = absurd p
replies_one s (step ∷ steps) [] others p q = absurd p
replies_one s (step ∷ steps) (a ∷ replies) [] p q = absurd q
replies_one s (step ∷ steps) (a ∷ replies) (b ∷ others) p q =
    ap₂ (◌∷◌) (reply_one s step.line step.act a b p.0 q.0) (replies_one (next s step) steps replies others p.1 q.1)
