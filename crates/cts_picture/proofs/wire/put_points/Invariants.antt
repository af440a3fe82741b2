use Rattle.std.proofs.Common.{take, map}
use Rattle.std.specs.List.{flat_map}
use Rattle.cts_io.specs.Text.{Puts}
use Rattle.cts_report_reader.specs.Seen.{seen_point}
use Rattle.cts_report.specs.Lines.{point_words}
use Rattle.cts_picture.proofs.wire.put_points.Given as goal

abbrev pub invariant-loop-point : goal.invariant-loop-point
invariant-loop-point g l =
    Puts g.K.ByteSink (l.fn.sink, l.fn.out) (l.sink, l.out)
    (flat_map point_words (map seen_point (take l.point-index l.points)))
