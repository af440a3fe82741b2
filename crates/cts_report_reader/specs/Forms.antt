-- The form of a report: the version of its instance, and the size of the instance's library.
use Rattle.std.specs.Prelude.{ℕ, Bool, true, false, length}
use Rattle.cts_instance.specs.declared.parts.Parts.{Parts}
use Rattle.cts_instance.specs.declared.version.Version.{Version}
use Rattle.cts_instance.specs.declared.version.Version.TheVariants.{One, Two}
use Rattle.cts_report.specs.Printed.{PrintedKind, sink_leaf, pair_node}
use Rattle.cts_report_reader.specs.declared.form.Form.{Form}

-- the form of the reports of an instance
abbrev pub form_of : Parts → Form
form_of i = record { version = i.version; buffers = length i.params.library }

-- the leaves of a report of this version have arrivals
abbrev pub tells_arrivals : Version → Bool
tells_arrivals One = false
tells_arrivals Two = true

-- and no other node has one
abbrev pub tells_arrival : Version → PrintedKind → Bool
tells_arrival version (sink_leaf id) = tells_arrivals version
tells_arrival version (pair_node left right buffer residue) = false

-- how many lines tell the greatest and the least arrival
abbrev pub arrival_count : Version → ℕ
arrival_count One = 0
arrival_count Two = 2
