use Rattle.std.proofs.Common.{◌≡◌, ℕ, ◌^◌, ◌<◌, get_or, take}
use Rattle.std.specs.Char.{IsAsciiDigit}
use Rattle.cts_num.specs.Number.{digit_number}
use Rattle.cts_report_reader.proofs.digits.all_digits.Given as goal

abbrev pub invariant-loop-byte : goal.invariant-loop-byte
invariant-loop-byte l = record {
  digits : (k : ℕ) → k < l.byte-index → IsAsciiDigit (get_or l.text k 0);
  number : l.number ≡ digit_number (take l.byte-index l.text);
  small : l.number < 10 ^ l.byte-index;
}
