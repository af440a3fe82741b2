use Rattle.std.proofs.Common.{◌≡◌, take}
use Rattle.cts_edit.specs.Roster.{present}
use Rattle.cts_edit.proofs.roster.copy_of.Given as goal

abbrev pub invariant-loop-slot : goal.invariant-loop-slot
invariant-loop-slot l = l.sinks.items ≡ present (take l.slot-index l.slots)
