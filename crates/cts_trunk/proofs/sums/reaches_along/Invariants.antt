use Rattle.std.proofs.Common.{◌≤◌, ◌≡◌, length}
use Rattle.cts_units.specs.Limits.{max_delay}
use Rattle.cts_instance.specs.declared.parts.Parts.{Parts}
use Rattle.cts_trunk.specs.TrunkSums.{AreReaches, IsBefore, IsDriveOf, wires_of}
use Rattle.cts_trunk.proofs.sums.reaches_along.Given as goal

abbrev pub invariant-loop-number : goal.invariant-loop-number
invariant-loop-number l = record {
  within : l.delay ≤ max_delay;
  long : length l.reaches.items ≡ l.number;
  before : (i : Parts) → IsDriveOf i l.drive → IsBefore i l.drive.repeater (wires_of l.drive l.stands) l.number l.delay;
  are : (i : Parts) → IsDriveOf i l.drive → AreReaches i l.drive.repeater (wires_of l.drive l.stands) l.number l.reaches.items;
}
