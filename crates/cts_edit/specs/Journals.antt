-- What contracts see of a journal.
use Rattle.std.specs.Prelude.{List}
use Rattle.cts_instance.specs.declared.parts.Parts.{Parts}
use Rattle.cts_edit.specs.declared.edit.Entry.{Entry}
use Rattle.cts_edit.specs.declared.journal.Journal.{Journal}

-- the accepted edits, in order
abbrev pub told_by : Journal → List Entry
told_by journal = journal.history.items

-- the instance whose sinks are edited
abbrev pub base_of : Journal → Parts
base_of journal = journal.base.value
