use Rattle.std.proofs.Common.{take}
use Rattle.cts_work.specs.Last.{AreSameLeaves}
use Rattle.cts_work.proofs.last.LastTree.same_leaves.Given as goal

abbrev pub invariant-loop-sink : goal.invariant-loop-sink
invariant-loop-sink l =
    record {
      same : AreSameLeaves l.self (take l.sink-index l.sinks) l.leaves.items;
    }
