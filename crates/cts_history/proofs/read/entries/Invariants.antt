use Rattle.std.proofs.Common.{◌≡◌, ◌-◌}
use Rattle.cts_report_reader.specs.Seen.{fronted_lines}
use Rattle.cts_history.specs.Entries.{entries_at}
use Rattle.cts_history.proofs.read.entries.Given as goal

abbrev pub invariant-loop-number : goal.invariant-loop-number
invariant-loop-number l = fronted_lines l.items.items (entries_at (l.count - l.number) l.number l.rest) ≡ entries_at l.count 0 l.fn.bytes
