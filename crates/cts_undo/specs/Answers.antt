-- Which reply to a step of a replay is right, by the changes that are done before it, and what is done after it.
use Rattle.std.specs.Prelude.{◌≡◌, ◌≢◌, ℕ, ◌<◌, List, [], ◌∷◌, length, Option, Some, None}
use Rattle.cts_edit.specs.declared.edit.EditCause.{EditCause}
use Rattle.cts_edit.specs.declared.edit.Entry.{Entry}
use Rattle.cts_edit.specs.declared.reply.EditReply.{EditReply}
use Rattle.cts_edit.specs.declared.reply.EditReply.TheVariants.{Accepted, Refused, NoMemory}
use Rattle.cts_edit.specs.Decide.{decide}
use Rattle.cts_edit.specs.Replies.{IsDecided}
use Rattle.cts_undo.specs.Replay.{State, after_change, after_undo, after_redo}
use Rattle.cts_script.specs.declared.script.Act.TheVariants.{Change, Draw}
use Rattle.cts_script.specs.declared.replay.ReplayAct.{ReplayAct}
use Rattle.cts_script.specs.declared.replay.ReplayAct.TheVariants.{Step, Undo, Redo}
use Rattle.cts_script.specs.declared.replay.ReplayStep.{ReplayStep}
use Rattle.cts_history.specs.declared.reply.Reply.{Reply}
use Rattle.cts_history.specs.declared.reply.Reply.TheVariants.{Edited, Drew, NoTree}
use Rattle.cts_history.specs.Replies.{HasNoTree, IsDrawing, entry_of}
use Rattle.cts_undo.specs.declared.reply.ReplayReply.{ReplayReply}
use Rattle.cts_undo.specs.declared.reply.ReplayReply.TheVariants.{Answered, Undone, Redone, Nothing}

-- a change that nothing refuses is made
abbrev pub changed_by : Option EditCause → State → Entry → State
changed_by None s entry = after_change s entry
changed_by (Some cause) s entry = s

-- the state after a step of this line
abbrev pub after_act : State → ℕ → ReplayAct → State
after_act s line (Step (Change edit)) = changed_by (decide s.base s.done edit) s (entry_of 1 line edit)
after_act s line (Step Draw) = s
after_act s line Undo = after_undo s
after_act s line Redo = after_redo s

abbrev pub next : State → ReplayStep → State
next s step = after_act s step.line step.act

-- the state after some steps
abbrev pub after_steps : State → List ReplayStep → State
after_steps s [] = s
after_steps s (step ∷ steps) = after_steps (next s step) steps

-- The reply to a step of this line. Want of memory ends a run, so it is no reply.
abbrev pub IsReplyTo : State → ℕ → ReplayAct → ReplayReply → Type 0
IsReplyTo s line (Step (Change edit)) (Answered (Edited l reply)) = (l ≡ line) × IsDecided s.base s.done edit reply × (reply ≢ NoMemory)
IsReplyTo s line (Step Draw) (Answered (Drew l version skew wire)) =
    (l ≡ line) × (version ≡ length s.done) × IsDrawing s.base s.done version skew wire
IsReplyTo s line (Step Draw) (Answered (NoTree l version end)) = (l ≡ line) × (version ≡ length s.done) × HasNoTree s.base s.done version end
IsReplyTo s line Undo (Undone l version) = (l ≡ line) × (0 < length s.done) × (version ≡ length (after_undo s).done)
IsReplyTo s line Undo (Nothing l version) = (l ≡ line) × (s.done ≡ []) × (version ≡ 0)
IsReplyTo s line Redo (Redone l version) = (l ≡ line) × (0 < length s.undone) × (version ≡ length (after_redo s).done)
IsReplyTo s line Redo (Nothing l version) = (l ≡ line) × (s.undone ≡ []) × (version ≡ length s.done)
IsReplyTo s line act reply = ⊥

-- one reply for each step, each by the state before it
unfoldable pub AreReplies : State → List ReplayStep → List ReplayReply → Type 0
AreReplies s [] [] = Unit {0}
AreReplies s [] (reply ∷ replies) = ⊥
AreReplies s (step ∷ steps) [] = ⊥
AreReplies s (step ∷ steps) (reply ∷ replies) = IsReplyTo s step.line step.act reply × AreReplies (next s step) steps replies

-- the version that a reply tells
abbrev pub edited_version : EditReply → ℕ
edited_version (Accepted version) = version
edited_version (Refused cause version) = version
edited_version NoMemory = 0

abbrev pub answered_version : Reply → ℕ
answered_version (Edited line reply) = edited_version reply
answered_version (Drew line version skew wire) = version
answered_version (NoTree line version end) = version

abbrev pub told_version : ReplayReply → ℕ
told_version (Answered reply) = answered_version reply
told_version (Undone line version) = version
told_version (Redone line version) = version
told_version (Nothing line version) = version
