use Rattle.std.proofs.Common.{sym, subst, take_all, arith}
use Rattle.cts_io.specs.Text.{Puts}
use Rattle.cts_io.proofs.Chains.{◌▸◌, puts_nothing}
use Rattle.cts_history.specs.History.{entry_line, numbered}
use Rattle.cts_history.proofs.Numbered.{numbered_before_more}
use Rattle.cts_history.proofs.history.put_entries.Goals as goal

pub loop-index-init : goal.loop-index-init
unfolding numbered
loop-index-init g c = puts_nothing _ _

pub loop-index-preserved : goal.loop-index-preserved
loop-index-preserved g c =
    subst (λ text. Puts g.K.ByteSink (c.args.sink.now, c.args.out.now) (c.put_entry.new.sink, c.put_entry.new.out) text)
    (sym (numbered_before_more entry_line c.args.history.now c.loop-index.index _ c.loop-index-test.true))
    (c.loop-index.invariant ▸ c.put_entry.ensures)

pub returns : goal.returns
returns g c =
    rw (sym (take_all c.loop-index.index c.args.history.now (omega (arith, c.loop-index-test.false)))) c.loop-index.invariant
