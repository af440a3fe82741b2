use Rattle.std.proofs.Common.{◌+◌, ◌-◌, ◌*◌, ◌≤◌}
use Rattle.cts_trunk.specs.Road.{AreStands, IsCursor}
use Rattle.cts_trunk.proofs.places.stands_along.Given as goal

abbrev pub invariant-loop-passed : goal.invariant-loop-passed
invariant-loop-passed l = record {
  cursor : IsCursor l.points l.cursor;
  begun : l.cursor.begin ≤ 2 * ((l.passed + 1) * l.step);
  within : l.passed ≤ l.count;
  are : AreStands l.map.blocks l.map.die l.points l.step l.passed l.stands.items;
}

abbrev pub decreases-loop-passed : goal.decreases-loop-passed
decreases-loop-passed l = l.count - l.passed
