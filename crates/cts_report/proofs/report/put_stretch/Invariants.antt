use Rattle.std.proofs.Common.{take}
use Rattle.std.specs.List.{concat}
use Rattle.cts_io.specs.Text.{Puts}
use Rattle.cts_report.specs.Lines.{node_lines}
use Rattle.cts_report.specs.Report.{printed_nodes}
use Rattle.cts_report.proofs.report.put_stretch.Given as goal

abbrev pub invariant-loop-at : goal.invariant-loop-at
invariant-loop-at g l =
    Puts g.K.ByteSink (l.fn.sink, l.fn.out) (l.sink, l.out)
    (concat (node_lines l.first (take l.at (printed_nodes l.version l.nodes l.figures))))
