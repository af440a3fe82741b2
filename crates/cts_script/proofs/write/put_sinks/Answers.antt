use Rattle.std.proofs.Common.{sym, subst}
use Rattle.cts_io.specs.Text.{Puts}
use Rattle.cts_io.proofs.Chains.{◌▸◌}
use Rattle.cts_script.specs.Text.{sink_line}
use Rattle.cts_script.proofs.Lists.{lines_more}
use Rattle.cts_script.proofs.write.put_sinks.Goals as goal

pub loop-item-preserved : goal.loop-item-preserved
loop-item-preserved g c =
    subst (λ text. Puts g.K.ByteSink (c.args.sink.now, c.args.out.now) (c.put_sink.new.sink, c.put_sink.new.out) text)
    (sym (lines_more (sink_line c.args.version) _ c.args.sinks.now c.loop-item.item-index _ c.loop-item-test.true))
    (c.loop-item.invariant ▸ c.put_sink.ensures)
