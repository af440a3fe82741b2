use Rattle.std.proofs.Common.{◌+◌, ◌-◌, ◌*◌}
use Rattle.cts_beside.proofs.halves.+halves.Given as goal

abbrev pub decreases-both_halves : goal.decreases-both_halves
decreases-both_halves g l = 4 * l.workers - 1

abbrev pub decreases-by_halves : goal.decreases-by_halves
decreases-by_halves g l = 4 * l.workers

abbrev pub decreases-both_halves-first : goal.decreases-both_halves-first
decreases-both_halves-first g l = 4 * l.here + 1

abbrev pub decreases-both_halves-second : goal.decreases-both_halves-second
decreases-both_halves-second g l = 4 * l.there + 1
