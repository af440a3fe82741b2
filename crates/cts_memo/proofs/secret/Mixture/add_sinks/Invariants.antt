use Rattle.std.proofs.Common.{◌++◌, take}
use Rattle.std.specs.List.{flat_map}
use Rattle.std.specs.Hash.{HashWrites}
use Rattle.cts_memo.specs.Secrets.{Mixes, sink_parts}
use Rattle.cts_memo.proofs.secret.Mixture.add_sinks.Given as goal

abbrev pub invariant-loop-sink : goal.invariant-loop-sink
invariant-loop-sink l =
    (parts : HashWrites) → Mixes parts l.fn.self
    → Mixes (parts ++ flat_map sink_parts (take l.sink-index l.sinks)) l.self
