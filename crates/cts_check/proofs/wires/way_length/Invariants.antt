use Rattle.std.proofs.Common.{◌*◌, ◌≤◌}
use Rattle.cts_report_reader.specs.Seen.{IsSeen}
use Rattle.cts_check.proofs.LegalSteps.{AddsUp}
use Rattle.cts_check.proofs.wires.way_length.Given as goal

abbrev pub invariant-loop-corner : goal.invariant-loop-corner
invariant-loop-corner l = record {
  seen : IsSeen l.start;
  bound : l.length ≤ 400000000 * l.corner-index;
  adds_up : AddsUp l.fn.from l.corners l.to l.corner-index l.start l.length;
}
