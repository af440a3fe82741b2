use Rattle.std.proofs.Common.{◌-◌, length}
use Rattle.cts_io.specs.Text.{Puts}
use Rattle.cts_report_workers.specs.Stretches.{stretch_text}
use Rattle.cts_report_workers.proofs.rounds.put_rounds.Given as goal

abbrev pub invariant-loop-first : goal.invariant-loop-first
invariant-loop-first g l =
    Puts g.K.ByteSink (l.fn.sink, l.fn.out) (l.sink, l.out) (stretch_text l.body 0 l.first)

abbrev pub decreases-loop-first : goal.decreases-loop-first
decreases-loop-first g l = length l.body.nodes.now - l.first
