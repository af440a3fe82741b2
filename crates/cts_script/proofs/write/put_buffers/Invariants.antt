use Rattle.std.proofs.Common.{take, map, length, ◌∷◌, codes}
use Rattle.std.specs.List.{concat}
use Rattle.cts_io.specs.Text.{Puts}
use Rattle.cts_script.specs.Text.{count_line, buffer_line}
use Rattle.cts_script.proofs.write.put_buffers.Given as goal

abbrev pub invariant-loop-buffer : goal.invariant-loop-buffer
invariant-loop-buffer g l =
    Puts g.K.ByteSink (l.fn.sink, l.fn.out) (l.sink, l.out)
    (concat (count_line (codes "buffers") (length l.buffers) ∷ map buffer_line (take l.buffer-index l.buffers)))
