use Rattle.std.proofs.Common.{length, ◌-◌, ◌≤◌}
use Rattle.cts_topo.specs.Rising.{Rises}
use Rattle.cts_topo.proofs.merge.merged_along.Given as goal

abbrev pub invariant-loop-old : goal.invariant-loop-old
invariant-loop-old l = record { rises : Rises l.wide l.pins l.some.items; within : l.next ≤ length l.fresh }

abbrev pub invariant-loop-next : goal.invariant-loop-next
invariant-loop-next l = record { rises : Rises l.wide l.pins l.some.items; within : l.next ≤ length l.fresh }

abbrev pub decreases-loop-next : goal.decreases-loop-next
decreases-loop-next l = length l.fresh - l.next

abbrev pub invariant-loop-pin : goal.invariant-loop-pin
invariant-loop-pin l = Rises l.wide l.pins l.some.items
