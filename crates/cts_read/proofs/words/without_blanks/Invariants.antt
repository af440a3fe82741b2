use Rattle.std.proofs.Common.{◌≡◌, drop}
use Rattle.cts_read.specs.Lines.{words_of}
use Rattle.cts_read.proofs.words.without_blanks.Given as goal

-- all bytes before this one are blanks
abbrev pub invariant-loop-at : goal.invariant-loop-at
invariant-loop-at l = words_of (drop l.at l.line) ≡ words_of l.line
