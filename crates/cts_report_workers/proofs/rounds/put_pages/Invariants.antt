use Rattle.std.proofs.Common.{◌*◌}
use Rattle.cts_io.specs.Text.{Puts}
use Rattle.cts_report_workers.specs.Stretches.{stretch_text}
use Rattle.cts_report_workers.proofs.rounds.put_pages.Given as goal

abbrev pub invariant-loop-number : goal.invariant-loop-number
invariant-loop-number g l =
    Puts g.K.ByteSink (l.fn.sink, l.fn.out) (l.sink, l.out) (stretch_text l.body l.first (l.number * l.stretch))
