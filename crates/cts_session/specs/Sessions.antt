-- What contracts see of a session, and what its calls make of it.
use Rattle.std.specs.Prelude.{ℕ, List}
use Rattle.cts_instance.specs.declared.parts.Parts.{Parts}
use Rattle.cts_memo.specs.declared.entry.MemoEntry.{MemoEntry}
use Rattle.cts_edit.specs.declared.edit.Edit.{Edit}
use Rattle.cts_edit.specs.declared.edit.Entry.{Entry}
use Rattle.cts_session.specs.declared.desk.Desk.{Desk}
use Rattle.cts_session.specs.declared.desk.Hands.{Hands}
use Rattle.cts_session.specs.Desks.{base_of, known_by, version_of}

-- a caller, by its number, with hands of a desk
pub record AtDesk : Type 0 where
  pub desk : Desk
  pub hands : Hands
  pub caller : ℕ

abbrev pub at_desk : Desk → Hands → ℕ → AtDesk
at_desk desk hands caller = record { desk = desk; hands = hands; caller = caller }

-- what it has seen of the memo
abbrev pub entries_of : AtDesk → List MemoEntry
entries_of session = (known_by session.hands).entries

-- the edits that it has seen
abbrev pub edits_of : AtDesk → List Entry
edits_of session = (known_by session.hands).edits

-- the instance with the sinks after these edits
abbrev pub seen_version : AtDesk → Parts
seen_version session = version_of (base_of session.desk) (edits_of session)

-- an edit as the design enters it
abbrev pub entry_of : ℕ → ℕ → Edit → Entry
entry_of caller line edit = record { caller = caller; line = line; edit = edit }
