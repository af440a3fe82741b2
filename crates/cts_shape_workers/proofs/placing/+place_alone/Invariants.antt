use Rattle.std.proofs.Common.{length}
use Rattle.cts_shape_workers.proofs.placing.+place_alone.Given as goal

abbrev pub decreases-place_alone : goal.decreases-place_alone
decreases-place_alone l = length l.out.now
