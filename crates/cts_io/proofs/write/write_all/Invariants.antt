use Rattle.std.proofs.Common.{◌≡◌, ◌-◌, ◌≤◌, length, take}
use Rattle.std.specs.Io.KnownBytes.{Appends}
use Rattle.cts_io.proofs.write.write_all.Given as goal

abbrev pub invariant-loop-written : goal.invariant-loop-written
invariant-loop-written g l = record {
  within : l.written ≤ length l.bytes;
  taken : Appends (g.K.ByteSink.held l.fn.sink) (g.K.ByteSink.held l.sink) (take l.written l.bytes);
  untouched : l.written ≡ 0 → l.sink ≡ l.fn.sink;
  counted : g.K.ByteSink.faults l.fn.sink ≤ g.K.ByteSink.faults l.sink;
}

abbrev pub decreases-loop-written : goal.decreases-loop-written
decreases-loop-written g l = length l.bytes - l.written
