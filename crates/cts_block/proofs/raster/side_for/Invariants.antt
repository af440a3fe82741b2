use Rattle.std.proofs.Common.{◌-◌, ◌<◌, ◌≤◌}
use Rattle.cts_block.proofs.raster.side_for.Given as goal

abbrev pub invariant-loop-side : goal.invariant-loop-side
invariant-loop-side l = (0 < l.side) × (l.side ≤ 64)

abbrev pub decreases-loop-side : goal.decreases-loop-side
decreases-loop-side l = 64 - l.side
