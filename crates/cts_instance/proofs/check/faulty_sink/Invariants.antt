use Rattle.std.proofs.Common.{◌≡◌, [], map, take, drop}
use Rattle.cts_instance.specs.FirstFault.{first_of, sink_line}
use Rattle.cts_instance.proofs.check.faulty_sink.Given as goal

abbrev pub invariant-loop-sink : goal.invariant-loop-sink
invariant-loop-sink l = record {
  lines_left : first_of (sink_line l.version l.die) [] l.sinks ≡ first_of (sink_line l.version l.die) (take l.sink-index l.sinks) (drop l.sink-index l.sinks);
  ids_seen : l.ids ≡ map (λ s. s.id) (take l.sink-index l.sinks);
}
