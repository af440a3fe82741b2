use Rattle.std.proofs.Common.{◌≡◌, ◌-◌, map, All}
use Rattle.cts_report_reader.specs.Seen.{IsSeen, seen_point, fronted}
use Rattle.cts_report_reader.specs.Words.{points_at}
use Rattle.cts_report_reader.proofs.points.points.Given as goal

abbrev pub invariant-loop-index : goal.invariant-loop-index
invariant-loop-index l = record {
  found : fronted (map seen_point l.items.items) (points_at (l.count - l._index) l.rest) ≡ points_at l.count l.fn.bytes;
  seen : All IsSeen l.items.items;
}
