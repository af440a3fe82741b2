use Rattle.std.proofs.Common.{◌≡◌, false, take}
use Rattle.cts_edit.specs.Edits.{has_id}
use Rattle.cts_undo.proofs.inverse.place_of.Given as goal

abbrev pub invariant-loop-place : goal.invariant-loop-place
invariant-loop-place l = has_id l.id (take l.place l.sinks) ≡ false
