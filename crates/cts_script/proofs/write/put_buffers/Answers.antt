use Rattle.std.proofs.Common.{sym, subst}
use Rattle.cts_io.specs.Text.{Puts}
use Rattle.cts_io.proofs.Chains.{◌▸◌}
use Rattle.cts_script.specs.Text.{buffer_line}
use Rattle.cts_script.proofs.Lists.{lines_more}
use Rattle.cts_script.proofs.write.put_buffers.Goals as goal

pub loop-buffer-preserved : goal.loop-buffer-preserved
loop-buffer-preserved g c =
    subst (λ text. Puts g.K.ByteSink (c.args.sink.now, c.args.out.now) (c.put_buffer.new.sink, c.put_buffer.new.out) text)
    (sym (lines_more buffer_line _ c.args.buffers.now c.loop-buffer.buffer-index _ c.loop-buffer-test.true))
    (c.loop-buffer.invariant ▸ c.put_buffer.ensures)
