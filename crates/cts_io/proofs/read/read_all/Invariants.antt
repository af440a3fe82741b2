use Rattle.std.proofs.Common.{◌≡◌, ◌+◌, ◌-◌, ◌≤◌, vec_len}
use Rattle.std.specs.Io.KnownBytes.{Consumes}
use Rattle.cts_io.proofs.read.read_all.Given as goal

abbrev pub invariant-loop-block : goal.invariant-loop-block
invariant-loop-block g l = record {
  within : vec_len l.bytes ≤ l.limit;
  room : vec_len l.block ≡ 65536;
  taken : Consumes (g.S.ByteSource.left l.fn.source) (g.S.ByteSource.left l.source) l.bytes.items;
  counted : g.S.ByteSource.faults l.fn.source ≤ g.S.ByteSource.faults l.source;
}

abbrev pub decreases-loop-block : goal.decreases-loop-block
decreases-loop-block g l = l.limit + 1 - vec_len l.bytes
