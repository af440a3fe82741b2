use Rattle.std.proofs.Common.{take}
use Rattle.cts_io.specs.Text.{Puts}
use Rattle.cts_history.specs.Legal.{lists_of}
use Rattle.cts_history.specs.History.{caller_text, numbered}
use Rattle.cts_history.proofs.history.put_callers.Given as goal

abbrev pub invariant-loop-index : goal.invariant-loop-index
invariant-loop-index g l =
    Puts g.K.ByteSink (l.fn.sink, l.fn.out) (l.sink, l.out)
    (numbered caller_text 1 (take l.index (lists_of l.replies)))
