use Rattle.std.proofs.Common.{◌≡◌, ℕ, ◌-◌, ◌<◌, ◌≤◌, true, length, get_or}
use Rattle.cts_report_reader.specs.Reader.{is_number_byte}
use Rattle.cts_report_reader.proofs.words.number_size.Given as goal

abbrev pub invariant-loop-size : goal.invariant-loop-size
invariant-loop-size l = record {
  inside : l.size ≤ length l.bytes;
  passed : (k : ℕ) → k < l.size → is_number_byte (get_or l.bytes k 0) ≡ true;
}

abbrev pub decreases-loop-size : goal.decreases-loop-size
decreases-loop-size l = length l.bytes - l.size
