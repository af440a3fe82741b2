use Rattle.std.proofs.Common.{◌≡◌, take}
use Rattle.cts_edit.proofs.roster.Roster.of.Given as goal

abbrev pub invariant-loop-sink : goal.invariant-loop-sink
invariant-loop-sink l = l.roster ≡ take l.sink-index l.sinks
