-- What the rules of a design are proved from.
use Rattle.std.specs.Prelude.{◌≡◌, ◌⊎◌, List, [], ◌∷◌, ◌++◌}
use Rattle.std.proofs.Common.{refl, inl, inr}
use Rattle.cts_edit.specs.declared.edit.Entry.{Entry}
use Rattle.cts_edit.specs.declared.reply.EditReply.{EditReply}
use Rattle.cts_edit.specs.declared.reply.EditReply.TheVariants.{Accepted, Refused, NoMemory}
use Rattle.cts_design.specs.declared.call.DesignCall.{DesignCall}
use Rattle.cts_design.specs.declared.call.DesignCall.TheVariants.{Change, Snapshot}
use Rattle.cts_design.specs.declared.call.DesignReply.{DesignReply}
use Rattle.cts_design.specs.declared.call.DesignReply.TheVariants.{Changed, Listed, NoMemory as no_list}
use Rattle.cts_edit.specs.Replies.{after_edit}
use Rattle.cts_design.specs.Replies.{history_after}

-- the history stays, or has one entry more
abbrev Appends : List Entry → List Entry → Type 0
Appends history after = (after ≡ history) ⊎ ((entry : Entry) × (after ≡ history ++ entry ∷ []))

appends_edit : (history : List Entry) (entry : Entry) (reply : EditReply) → Appends history (after_edit history entry reply)
appends_edit history entry (Accepted version) = inr (entry, refl)
appends_edit history entry (Refused cause version) = inl refl
appends_edit history entry NoMemory = inl refl

pub appends : (history : List Entry) (call : DesignCall) (reply : DesignReply) → Appends history (history_after history call reply)
appends history (Change entry) (Changed reply) = appends_edit history entry reply
appends history (Change entry) (Listed version sinks) = inl refl
appends history (Change entry) no_list = inl refl
appends history Snapshot reply = inl refl
