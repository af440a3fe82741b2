-- What contracts say of a design that is shared, and of its passes.
use Rattle.std.specs.Prelude.{◌≡◌, ℕ, List, Option, Some, None}
use mathlib.Core.List.{IsPrefix}
use Rattle.cts_instance.specs.declared.parts.Parts.{Parts}
use Rattle.cts_turn.specs.declared.turn.Pass.{Pass}
use Rattle.cts_turn.specs.declared.turn.Turn.{Turn}
use Rattle.cts_turn.specs.Passes as turns
use Rattle.cts_edit.specs.declared.edit.Entry.{Entry}
use Rattle.cts_edit.specs.declared.reply.EditReply.{EditReply}
use Rattle.cts_edit.specs.declared.reply.EditReply.TheVariants.{Accepted, Refused, NoMemory}
use Rattle.cts_design.specs.declared.call.DesignCall.{DesignCall}
use Rattle.cts_design.specs.declared.call.DesignReply.{DesignReply}
use Rattle.cts_design.specs.declared.design.Design.{Design}
use Rattle.cts_design.specs.contracts.design.DesignObject.TheImpl.{ghosts}
use Rattle.cts_design.specs.Designs.{base_of, told_by}
use Rattle.cts_edit.specs.Sound.{IsSound}
use Rattle.cts_edit.specs.Replies.{IsDecided, after_edit}

-- the instance whose sinks are edited
abbrev pub instance_of : Turn Design Entry DesignCall DesignReply → Parts
instance_of design = base_of (turns.start_of design)

-- the edits that it began with
abbrev pub opening_of : Turn Design Entry DesignCall DesignReply → List Entry
opening_of design = told_by (turns.start_of design)

-- The pass came from this design. What it has seen is sound, and has at most 65,536 edits.
abbrev pub IsPassOf : Turn Design Entry DesignCall DesignReply → Pass Design Entry DesignCall DesignReply → Type 0
IsPassOf design pass = turns.IsPassOf ghosts design pass

-- how many edits a reply made
abbrev pub made_in : EditReply → ℕ
made_in (Accepted version) = 1
made_in (Refused cause version) = 0
made_in NoMemory = 0

-- the version that a reply tells
abbrev pub version_in : EditReply → Option ℕ
version_in (Accepted version) = Some version
version_in (Refused cause version) = Some version
version_in NoMemory = None

-- An edit met a history that begins with what the pass had seen, and was judged there. The pass has then seen the history
-- after the reply.
pub record IsEdited (base : Parts) (seen : List Entry) (entry : Entry) (reply : EditReply) (seen' : List Entry) : Type 0 where
  pub met : List Entry
  pub goes_on : IsPrefix seen met
  pub sound : IsSound base met
  pub decided : IsDecided base met entry.edit reply
  pub after : seen' ≡ after_edit met entry reply
