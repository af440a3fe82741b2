use Rattle.std.proofs.Common.{◌≡◌, drop}
use Rattle.cts_read.specs.Lines.{is_skipped}
use Rattle.cts_read.proofs.words.is_skipped.Given as goal

-- all bytes before this one are blanks
abbrev pub invariant-loop-byte : goal.invariant-loop-byte
invariant-loop-byte l = is_skipped (drop l.byte-index l.line) ≡ is_skipped l.line
