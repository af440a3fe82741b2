use Rattle.std.proofs.Common.{take}
use Rattle.cts_undo.specs.SinkList.{IsIndexed}
use Rattle.cts_undo.proofs.sinks.places_of.Given as goal

abbrev pub invariant-loop-place : goal.invariant-loop-place
invariant-loop-place l = IsIndexed (take l.place l.sinks) l.places
