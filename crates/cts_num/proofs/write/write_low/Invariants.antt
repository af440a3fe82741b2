use Rattle.std.proofs.Common.{◌≡◌, ◌-◌, ◌/◌, ◌%◌, ◌^◌, ◌≤◌, ◌++◌, take, drop}
use Rattle.cts_num.specs.Decimal.{padded_text}
use Rattle.cts_num.proofs.write.write_low.Given as goal

abbrev pub invariant-loop-at : goal.invariant-loop-at
invariant-loop-at l = record {
  above : l.start ≤ l.at;
  below : l.at ≤ l.end;
  rest : l.rest ≡ l.number / 10 ^ (l.end - l.at);
  kept : take l.start l.buffer ≡ take l.start l.fn.buffer;
  text : padded_text (l.at - l.start) (l.rest % 10 ^ (l.at - l.start)) ++ drop l.at l.buffer ≡ padded_text l.width (l.number % 10 ^ l.width) ++ drop l.end l.fn.buffer;
}

abbrev pub decreases-loop-at : goal.decreases-loop-at
decreases-loop-at l = l.at
