use Rattle.std.proofs.Common.{ℕ, ◌-◌, ◌<◌, ◌≤◌, slice_index}
use Rattle.std.specs.Char.{IsAsciiDigit}
use Rattle.cts_num.proofs.read.digits_end.Given as goal

abbrev pub invariant-loop-at : goal.invariant-loop-at
invariant-loop-at l = record {
  from : l.from ≤ l.at;
  to : l.at ≤ l.to;
  digits : (k : ℕ) → l.from ≤ k → k < l.at → IsAsciiDigit (slice_index l.text k);
}

abbrev pub decreases-loop-at : goal.decreases-loop-at
decreases-loop-at l = l.to - l.at
