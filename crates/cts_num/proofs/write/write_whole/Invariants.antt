use Rattle.std.proofs.Common.{◌≡◌, ◌+◌, ◌≤◌, ◌++◌, length, drop}
use Rattle.cts_num.specs.Decimal.{whole_text}
use Rattle.cts_num.proofs.write.write_whole.Given as goal

abbrev pub invariant-loop-rest : goal.invariant-loop-rest
invariant-loop-rest l = record {
  room : length (whole_text l.rest) ≤ l.at;
  below : l.at ≤ l.end;
  moved : l.at + length (whole_text l.number) ≡ l.end + length (whole_text l.rest);
  text : whole_text l.rest ++ drop l.at l.buffer ≡ whole_text l.number ++ drop l.end l.fn.buffer;
}

abbrev pub decreases-loop-rest : goal.decreases-loop-rest
decreases-loop-rest l = l.rest
