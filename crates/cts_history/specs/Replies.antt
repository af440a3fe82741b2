-- Which reply to a step is right, where this is the history of all accepted edits.
use Rattle.std.specs.Prelude.{◌≡◌, ◌≢◌, ℕ, ◌-◌, ◌<◌, ◌≤◌, List, take, length, slice_get, Option, Some, None}
use Rattle.cts_tree.specs.declared.nodes.TreeNode.{TreeNode}
use Rattle.cts_instance.specs.declared.parts.Parts.{Parts}
use Rattle.cts_instance.specs.Validity.{with_sinks}
use Rattle.cts_elmore.specs.declared.figures.Figures.{Figures}
use Rattle.cts_elmore.specs.Figures.{AreFigures}
use Rattle.cts_plain.specs.declared.end.NoTree.{NoTree as Why}
use Rattle.cts_plain.specs.declared.end.NoTree.TheVariants as why
use Rattle.cts_plain.specs.Ends.{Ends}
use Rattle.cts_plain.specs.Synthesis.{IsSynthesis, made}
use Rattle.cts_edit.specs.declared.edit.Edit.{Edit}
use Rattle.cts_edit.specs.declared.edit.EditCause.{EditCause}
use Rattle.cts_edit.specs.declared.edit.Entry.{Entry}
use Rattle.cts_edit.specs.declared.reply.EditReply.{EditReply}
use Rattle.cts_edit.specs.declared.reply.EditReply.TheVariants.{Accepted, Refused, NoMemory}
use Rattle.cts_edit.specs.Edits.{after}
use Rattle.cts_edit.specs.Decide.{decide}
use Rattle.cts_script.specs.declared.script.Act.{Act}
use Rattle.cts_script.specs.declared.script.Act.TheVariants.{Change, Draw}
use Rattle.cts_script.specs.declared.script.ScriptStep.{ScriptStep}
use Rattle.cts_history.specs.declared.reply.Reply.{Reply}
use Rattle.cts_history.specs.declared.reply.Reply.TheVariants.{Edited, Drew, NoTree}

-- what a step's change is in the history
abbrev pub entry_of : ℕ → ℕ → Edit → Entry
entry_of caller line edit = record { caller = caller; line = line; edit = edit }

-- The entry of this version, counted from 1, is this one, and the edits before it accept it.
pub record IsEntry (base : Parts) (history : List Entry) (entry : Entry) (version : ℕ) : Type 0 where
  pub some : 0 < version
  pub here : slice_get history (version - 1) ≡ Some entry
  pub accepted : decide base (take (version - 1) history) entry.edit ≡ None

-- The edits up to this version refuse the edit for this cause.
pub record IsRefusal (base : Parts) (history : List Entry) (edit : Edit) (cause : EditCause) (version : ℕ) : Type 0 where
  pub within : version ≤ length history
  pub refused : decide base (take version history) edit ≡ Some cause

-- the instance with the sinks of a version
abbrev pub at_version : Parts → List Entry → ℕ → Parts
at_version base history version = with_sinks base (after base.sinks (take version history))

-- The tree of this version has this skew and this wire.
pub record IsDrawing (base : Parts) (history : List Entry) (version skew wire : ℕ) : Type 0 where
  pub within : version ≤ length history
  pub tree : List TreeNode
  pub is_tree : IsSynthesis (at_version base history version) (made tree)
  pub figures : Figures
  pub are_figures : AreFigures (at_version base history version) tree figures
  pub skew_is : figures.skew ≡ skew
  pub wire_is : figures.wire_total ≡ wire

-- This version has no tree, and this is why.
pub record HasNoTree (base : Parts) (history : List Entry) (version : ℕ) (end : Why) : Type 0 where
  pub within : version ≤ length history
  pub ends : Ends (at_version base history version) end
  pub told : end ≢ why.NoMemory

-- the reply to a caller's change; want of memory ends a run, so it is no reply
abbrev pub IsReplyToChange : Parts → List Entry → Entry → EditReply → Type 0
IsReplyToChange base history entry (Accepted version) = IsEntry base history entry version
IsReplyToChange base history entry (Refused cause version) = IsRefusal base history entry.edit cause version
IsReplyToChange base history entry NoMemory = ⊥

-- the reply to a step of a caller, with the step's line
abbrev pub Answers : Parts → List Entry → ℕ → ℕ → Act → Reply → Type 0
Answers base history caller line (Change edit) (Edited l reply) = (l ≡ line) × IsReplyToChange base history (entry_of caller line edit) reply
Answers base history caller line (Change edit) (Drew l version skew wire) = ⊥
Answers base history caller line (Change edit) (NoTree l version end) = ⊥
Answers base history caller line Draw (Edited l reply) = ⊥
Answers base history caller line Draw (Drew l version skew wire) = (l ≡ line) × IsDrawing base history version skew wire
Answers base history caller line Draw (NoTree l version end) = (l ≡ line) × HasNoTree base history version end

abbrev pub IsReply : Parts → List Entry → ℕ → ScriptStep → Reply → Type 0
IsReply base history caller step reply = Answers base history caller step.line step.act reply

-- the version that a reply to a change tells
abbrev pub version_told : EditReply → ℕ
version_told (Accepted version) = version
version_told (Refused cause version) = version
version_told NoMemory = 0

-- the version that a reply tells
unfoldable pub version_of : Reply → ℕ
version_of (Edited line reply) = version_told reply
version_of (Drew line version skew wire) = version
version_of (NoTree line version end) = version

-- the version that an accepted change made
abbrev pub version_made : EditReply → Option ℕ
version_made (Accepted version) = Some version
version_made (Refused cause version) = None
version_made NoMemory = None

unfoldable pub accepted_version : Reply → Option ℕ
accepted_version (Edited line reply) = version_made reply
accepted_version (Drew line version skew wire) = None
accepted_version (NoTree line version end) = None
