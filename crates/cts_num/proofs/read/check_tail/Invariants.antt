use Rattle.std.proofs.Common.{◌≡◌, ℕ, ◌-◌, ◌<◌, ◌≤◌, length, slice_index}
use Rattle.cts_num.proofs.read.check_tail.Given as goal

abbrev pub invariant-loop-fine : goal.invariant-loop-fine
invariant-loop-fine l = record {
  from : l.from ≤ l.fine;
  to : l.fine ≤ length l.text;
  zeros : (k : ℕ) → l.from ≤ k → k < l.fine → slice_index l.text k ≡ 48;
}

abbrev pub decreases-loop-fine : goal.decreases-loop-fine
decreases-loop-fine l = length l.text - l.fine
