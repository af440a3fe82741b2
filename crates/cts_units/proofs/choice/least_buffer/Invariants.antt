-- The best so far is in the library, no buffer that was looked at has a lesser delay, and each before it has a greater one.
use Rattle.std.proofs.Common.{◌≡◌, ℕ, ◌<◌, ◌≤◌, slice_get, Some}
use Rattle.cts_units.specs.declared.params.Buffer.{Buffer}
use Rattle.cts_units.specs.Delay.{buffer_delay_of}
use Rattle.cts_units.proofs.choice.least_buffer.Given as goal

abbrev pub invariant-loop-index : goal.invariant-loop-index
invariant-loop-index l = record {
  found : (buffer : Buffer) × (slice_get l.buffers l.best ≡ Some buffer) × (l.least ≡ buffer_delay_of buffer l.load);
  least : (k : ℕ) (other : Buffer) → slice_get l.buffers k ≡ Some other → k < l.index → l.least ≤ buffer_delay_of other l.load;
  first : (k : ℕ) (other : Buffer) → slice_get l.buffers k ≡ Some other → k < l.best → l.least < buffer_delay_of other l.load;
}
