use Rattle.std.proofs.Common.{◌≡◌, ℕ, ◌<◌, ◌≤◌, length, get_or, All}
use Rattle.cts_units.specs.declared.params.Sink.{Sink}
use Rattle.cts_up.specs.Sinks.{IsSinkInRange}
use Rattle.cts_rows_shared.proofs.workers.line.Given as goal

abbrev pub invariant-loop-number : goal.invariant-loop-number
invariant-loop-number l =
    record {
      upto : l.number ≤ l.count;
      long : length l.sinks.items ≡ l.number;
      each : All IsSinkInRange l.sinks.items;
      ids : (k : ℕ) (d : Sink) → k < length l.sinks.items → (get_or l.sinks.items k d).id ≡ k;
    }
