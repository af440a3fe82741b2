use Rattle.std.proofs.Common.{◌≡◌, length}
use Rattle.cts_io.specs.Lines.{lines_of}
use Rattle.cts_read.specs.Grammar.{left_of}
use Rattle.cts_read.proofs.cursor.content_line.Given as goal

-- what was passed is skipped
abbrev pub invariant-loop-number : goal.invariant-loop-number
invariant-loop-number l = record {
  left : left_of l.lines ≡ left_of l.fn.lines;
  text : l.lines.text ≡ l.fn.lines.text;
}

abbrev pub decreases-loop-number : goal.decreases-loop-number
decreases-loop-number l = length (lines_of l.lines.rest)
