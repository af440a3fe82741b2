use Rattle.std.proofs.Common.{take}
use Rattle.cts_io.specs.Text.{Puts}
use Rattle.cts_history.specs.History.{entry_line, numbered}
use Rattle.cts_history.proofs.history.put_entries.Given as goal

abbrev pub invariant-loop-index : goal.invariant-loop-index
invariant-loop-index g l =
    Puts g.K.ByteSink (l.fn.sink, l.fn.out) (l.sink, l.out)
    (numbered entry_line 1 (take l.index l.history))
