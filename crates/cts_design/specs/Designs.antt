-- What contracts see of a design.
use Rattle.std.specs.Prelude.{List}
use Rattle.cts_instance.specs.declared.parts.Parts.{Parts}
use Rattle.cts_edit.specs.declared.edit.Entry.{Entry}
use Rattle.cts_edit.specs.Journals as journals
use Rattle.cts_design.specs.declared.design.Design.{Design}

-- the accepted edits, in order
abbrev pub told_by : Design → List Entry
told_by design = journals.told_by design.journal

-- the instance whose sinks are edited
abbrev pub base_of : Design → Parts
base_of design = journals.base_of design.journal
