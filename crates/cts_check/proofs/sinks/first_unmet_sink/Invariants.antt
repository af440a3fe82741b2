use Rattle.std.proofs.Common.{◌≡◌, ℕ, ◌<◌, take}
use Rattle.cts_check.specs.Marks.{marks_of}
use Rattle.cts_check.specs.Rules.{MeetsSinks}
use Rattle.cts_check.proofs.sinks.first_unmet_sink.Given as goal

abbrev pub invariant-loop-number : goal.invariant-loop-number
invariant-loop-number l = record {
  marks : l.marks.items ≡ marks_of l.instance.sinks (take l.number l.nodes);
  met : (k : ℕ) → k < l.number → MeetsSinks l.instance l.nodes k;
}
