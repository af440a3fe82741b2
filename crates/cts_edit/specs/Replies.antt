-- Which replies a history allows to an edit, and the history after each of them.
use Rattle.std.specs.Prelude.{◌≡◌, ◌+◌, List, [], ◌∷◌, ◌++◌, length, Some, None}
use Rattle.cts_instance.specs.declared.parts.Parts.{Parts}
use Rattle.cts_edit.specs.declared.edit.Edit.{Edit}
use Rattle.cts_edit.specs.declared.edit.Entry.{Entry}
use Rattle.cts_edit.specs.declared.reply.EditReply.{EditReply}
use Rattle.cts_edit.specs.declared.reply.EditReply.TheVariants.{Accepted, Refused, NoMemory}
use Rattle.cts_edit.specs.Decide.{decide}

-- The reply to an edit: accepted with the next version, or refused with the first cause that holds and the version at
-- which it was decided. Only an edit that would be accepted may end for want of memory.
abbrev pub IsDecided : Parts → List Entry → Edit → EditReply → Type 0
IsDecided base history edit (Accepted version) = (decide base history edit ≡ None) × (version ≡ length history + 1)
IsDecided base history edit (Refused cause version) = (decide base history edit ≡ Some cause) × (version ≡ length history)
IsDecided base history edit NoMemory = decide base history edit ≡ None

-- an accepted edit is appended; any other reply leaves the history as it is
abbrev pub after_edit : List Entry → Entry → EditReply → List Entry
after_edit history entry (Accepted version) = history ++ entry ∷ []
after_edit history entry (Refused cause version) = history
after_edit history entry NoMemory = history
