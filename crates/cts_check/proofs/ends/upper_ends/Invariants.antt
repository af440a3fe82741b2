use Rattle.std.specs.List.{All}
use Rattle.cts_report_reader.specs.Seen.{IsSeen}
use Rattle.cts_check.proofs.UpperEnds.{AreHandedDown}
use Rattle.cts_check.proofs.ends.upper_ends.Given as goal

abbrev pub invariant-loop-number : goal.invariant-loop-number
invariant-loop-number l = record { down : AreHandedDown l.instance l.nodes l.number l.ends.items; seen : All IsSeen l.ends.items }
