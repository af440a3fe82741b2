use Rattle.std.proofs.Common.{◌≡◌, ℕ, ◌-◌, ◌^◌, ◌<◌, ◌≤◌, length, get_or, take}
use Rattle.std.specs.Char.{IsAsciiDigit}
use Rattle.cts_num.specs.Number.{digit_number}
use Rattle.cts_report_reader.proofs.digits.digits.Given as goal

abbrev pub invariant-loop-size : goal.invariant-loop-size
invariant-loop-size l = record {
  inside : l.size ≤ length l.bytes;
  few : l.size ≤ l.most;
  digits : (k : ℕ) → k < l.size → IsAsciiDigit (get_or l.bytes k 0);
  number : l.number ≡ digit_number (take l.size l.bytes);
  small : l.number < 10 ^ l.size;
}

abbrev pub decreases-loop-size : goal.decreases-loop-size
decreases-loop-size l = length l.bytes - l.size
