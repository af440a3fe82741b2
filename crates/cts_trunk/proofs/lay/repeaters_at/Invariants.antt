use Rattle.std.proofs.Common.{◌≡◌, ℕ, ◌+◌, ◌<◌, length, slice_index_or}
use Rattle.cts_trunk.specs.declared.trunk.Repeater.{Repeater}
use Rattle.cts_trunk.specs.Assembled.{repeater_of, nowhere, unreached}
use Rattle.cts_trunk.proofs.lay.repeaters_at.Given as goal

abbrev pub invariant-loop-number : goal.invariant-loop-number
invariant-loop-number l = record {
  long : length l.repeaters.items ≡ l.number;
  each_stand : (k : ℕ) (d : Repeater) → k < l.number
      → slice_index_or l.repeaters.items k d
      ≡ repeater_of (slice_index_or l.stands k nowhere) (slice_index_or l.reaches k unreached) (slice_index_or l.reaches (k + 1) unreached);
}
