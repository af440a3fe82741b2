use Rattle.std.proofs.Common.{take, map, length, ◌∷◌, codes}
use Rattle.std.specs.List.{concat}
use Rattle.cts_io.specs.Text.{Puts}
use Rattle.cts_script.specs.Text.{count_line, sink_line}
use Rattle.cts_script.proofs.write.put_sinks.Given as goal

abbrev pub invariant-loop-item : goal.invariant-loop-item
invariant-loop-item g l =
    Puts g.K.ByteSink (l.fn.sink, l.fn.out) (l.sink, l.out)
    (concat (count_line (codes "sinks") (length l.sinks) ∷ map (sink_line l.version) (take l.item-index l.sinks)))
