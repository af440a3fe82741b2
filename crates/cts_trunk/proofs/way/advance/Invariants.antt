use Rattle.std.proofs.Common.{◌≤◌}
use Rattle.cts_trunk.specs.Road.{IsCursor}
use Rattle.cts_trunk.proofs.Cursors.{cursor_at}
use Rattle.cts_trunk.proofs.way.advance.Given as goal

abbrev pub invariant-loop-segment : goal.invariant-loop-segment
invariant-loop-segment l = record { cursor : IsCursor l.points (cursor_at l.segment l.begin); here : l.begin ≤ l.distance }
