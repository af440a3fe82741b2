use Rattle.std.proofs.Common.{◌≡◌, ℕ, ◌<◌, false, get_or}
use Rattle.cts_read.specs.Lines.{is_blank}
use Rattle.cts_read.proofs.words.word_length.Given as goal

-- no byte before this one is a blank
abbrev pub invariant-loop-at : goal.invariant-loop-at
invariant-loop-at l = (k : ℕ) → k < l.at → is_blank (get_or l.text k 0) ≡ false
