-- Which replies a history allows to a call, and the history after each of them.
use Rattle.std.specs.Prelude.{◌≡◌, List, length}
use Rattle.cts_instance.specs.declared.parts.Parts.{Parts}
use Rattle.cts_edit.specs.declared.edit.Entry.{Entry}
use Rattle.cts_design.specs.declared.call.DesignCall.{DesignCall}
use Rattle.cts_design.specs.declared.call.DesignCall.TheVariants.{Change, Snapshot}
use Rattle.cts_design.specs.declared.call.DesignReply.{DesignReply}
use Rattle.cts_design.specs.declared.call.DesignReply.TheVariants.{Changed, Listed, NoMemory as no_list}
use Rattle.cts_edit.specs.Edits.{IsEdit, after}
use Rattle.cts_edit.specs.Replies.{IsDecided, after_edit}

-- a snapshot may always be taken, an edit may be asked for within the limits
abbrev pub Fits : DesignCall → Type 0
Fits (Change entry) = IsEdit entry.edit
Fits Snapshot = Unit {0}

-- the reply is of the call's kind, and allowed
abbrev pub Allows : Parts → List Entry → DesignCall → DesignReply → Type 0
Allows base history (Change entry) (Changed reply) = IsDecided base history entry.edit reply
Allows base history (Change entry) (Listed version sinks) = ⊥
Allows base history (Change entry) no_list = ⊥
Allows base history Snapshot (Changed reply) = ⊥
Allows base history Snapshot (Listed version sinks) = (version ≡ length history) × (sinks.items ≡ after base.sinks history)
Allows base history Snapshot no_list = Unit {0}

abbrev pub history_after : List Entry → DesignCall → DesignReply → List Entry
history_after history (Change entry) (Changed reply) = after_edit history entry reply
history_after history (Change entry) (Listed version sinks) = history
history_after history (Change entry) no_list = history
history_after history Snapshot reply = history
