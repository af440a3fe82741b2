use Rattle.std.proofs.Common.{◌≤◌, ◌-◌, length}
use Rattle.cts_instance.specs.Ids.{HasFirst}
use Rattle.cts_instance.proofs.ids.order.Given as goal

-- the set has the ids so far
abbrev pub invariant-loop-ordered : goal.invariant-loop-ordered
invariant-loop-ordered l = record {
  within : l.ordered ≤ length l.ids;
  first : HasFirst l.ids l.ordered l.known;
}

abbrev pub decreases-loop-ordered : goal.decreases-loop-ordered
decreases-loop-ordered l = length l.ids - l.ordered
