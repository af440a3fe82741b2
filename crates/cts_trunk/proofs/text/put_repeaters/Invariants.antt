use Rattle.std.proofs.Common.{take}
use Rattle.std.specs.List.{concat}
use Rattle.cts_io.specs.Text.{Puts}
use Rattle.cts_trunk.specs.Lines.{repeater_lines}
use Rattle.cts_trunk.proofs.text.put_repeaters.Given as goal

abbrev pub invariant-loop-number : goal.invariant-loop-number
invariant-loop-number g l =
    Puts g.K.ByteSink (l.fn.sink, l.fn.out) (l.sink, l.out)
    (concat (repeater_lines 1 (take l.number l.repeaters)))
