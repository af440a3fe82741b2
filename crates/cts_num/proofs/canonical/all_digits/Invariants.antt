use Rattle.std.proofs.Common.{◌≡◌, ◌^◌, ◌<◌, take}
use Rattle.cts_num.specs.Number.{digit_number}
use Rattle.cts_num.proofs.canonical.all_digits.Given as goal

abbrev pub invariant-loop-byte : goal.invariant-loop-byte
invariant-loop-byte l = record {
  number : l.number ≡ digit_number (take l.byte-index l.text);
  small : l.number < 10 ^ 38;
}
