use Prim.Native.Nat.{◌+◌, ◌*◌}
use Rattle.std.proofs.Common.{length}
use Rattle.cts_callers.proofs.callers.+callers.Given as goal

abbrev pub decreases-run_from : goal.decreases-run_from
decreases-run_from g l = 2 * length l.scripts.now

abbrev pub decreases-front : goal.decreases-front
decreases-front g l = 2 * length l.here.now + 1

abbrev pub decreases-back : goal.decreases-back
decreases-back g l = 2 * length l.there.now + 1
