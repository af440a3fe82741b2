use Rattle.std.proofs.Common.{◌≡◌, ◌-◌, [], None, length, map}
use Rattle.cts_units.specs.declared.params.Sink.{Sink}
use Rattle.cts_instance.specs.FirstFault.{first_of, sink_line}
use Rattle.cts_read.specs.Grammar.{left_of}
use Rattle.cts_read.specs.Items.{sink_of, list_at}
use Rattle.cts_read.proofs.lists.read_sinks.Given as goal

-- the sinks so far, and those that are left, are what all lines give; their ids are kept beside them
abbrev pub invariant-loop : goal.invariant-loop
invariant-loop l = record {
  so_far : list_at (sink_of l.version l.die) (l.count - l.counter) l.sinks.items (left_of l.lines) ≡ list_at (sink_of l.version l.die) l.count [] (left_of l.fn.lines);
  ids : l.ids ≡ map (λ (s : Sink). s.id) l.sinks.items;
  many : length l.sinks.items ≡ l.counter;
  sound : first_of (sink_line l.version l.die) [] l.sinks.items ≡ None;
  text : l.lines.text ≡ l.fn.lines.text;
}
