use Prim.Native.Nat.{◌+◌, ◌*◌}
use Rattle.cts_work.proofs.workers.+shifts.Given as goal

abbrev pub decreases-run_workers : goal.decreases-run_workers
decreases-run_workers g l = 2 * l.workers

abbrev pub decreases-front : goal.decreases-front
decreases-front g l = 2 * l.here + 1

abbrev pub decreases-back : goal.decreases-back
decreases-back g l = 2 * l.there + 1
