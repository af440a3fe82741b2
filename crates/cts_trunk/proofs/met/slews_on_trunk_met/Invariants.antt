use Rattle.std.proofs.Common.{ℕ, ◌<◌, ◌≤◌, ◌*◌, slice_index_or}
use Rattle.cts_units.specs.Delay.{slew_of}
use Rattle.cts_trunk.specs.declared.sums.Reach.{Reach}
use Rattle.cts_trunk.proofs.met.slews_on_trunk_met.Given as goal

abbrev pub invariant-loop-reach : goal.invariant-loop-reach
invariant-loop-reach l =
    (k : ℕ) (d : Reach) → k < l.reach-index → slew_of (slice_index_or l.reaches k d).stage ≤ 10 * l.limit
