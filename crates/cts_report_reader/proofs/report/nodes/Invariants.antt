use Rattle.std.proofs.Common.{◌≡◌, ◌-◌, [], length, reverse, All}
use Rattle.cts_report_reader.specs.Nodes.{IsSeenNode, seen_nodes}
use Rattle.cts_report_reader.specs.Seen.{fronted_lines}
use Rattle.cts_report_reader.specs.Whole.{nodes_at}
use Rattle.cts_report_reader.proofs.report.nodes.Given as goal

abbrev pub invariant-loop-number : goal.invariant-loop-number
invariant-loop-number l = record {
  found : fronted_lines (seen_nodes l.items.items) (nodes_at l.form (l.count - l.number) l.number (reverse l.stack.items) l.rest) ≡ nodes_at l.form l.count 0 [] l.fn.bytes;
  seen : All IsSeenNode l.items.items;
  long : length l.items.items ≡ l.number;
}
