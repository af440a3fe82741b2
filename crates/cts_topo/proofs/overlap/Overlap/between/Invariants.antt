use Rattle.std.proofs.Common.{◌+◌}
use Rattle.cts_topo.proofs.Fresh.{ArePassed}
use Rattle.cts_topo.proofs.overlap.Overlap.between.Given as goal

abbrev pub invariant-loop-old : goal.invariant-loop-old
invariant-loop-old l = ArePassed l.pins l.fresh.items l.next

abbrev pub invariant-loop-pin : goal.invariant-loop-pin
invariant-loop-pin l = ArePassed l.pins l.fresh.items (l.next + l.pin-index)
