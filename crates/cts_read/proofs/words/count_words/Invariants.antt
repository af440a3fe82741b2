use Rattle.std.proofs.Common.{◌≡◌, ◌+◌, ◌≤◌, length, drop}
use Rattle.cts_read.specs.Lines.{words_of}
use Rattle.cts_read.proofs.WordCounts.{begun}
use Rattle.cts_read.proofs.words.count_words.Given as goal

-- the words that began so far and those still to begin are all
abbrev pub invariant-loop-byte : goal.invariant-loop-byte
invariant-loop-byte l = record {
  words : l.count + begun l.after_blank (drop l.byte-index l.line) ≡ length (words_of l.line);
  bytes : l.count ≤ l.byte-index;
}
