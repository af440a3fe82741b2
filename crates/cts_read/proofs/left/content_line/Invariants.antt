use Rattle.std.proofs.Common.{◌≡◌, length}
use Rattle.cts_io.specs.Lines.{lines_of}
use Rattle.cts_read.specs.Grammar.{left_in}
use Rattle.cts_read.proofs.left.content_line.Given as goal

-- what was passed is skipped
abbrev pub invariant-loop-number : goal.invariant-loop-number
invariant-loop-number l = left_in l.lines ≡ left_in l.fn.lines

abbrev pub decreases-loop-number : goal.decreases-loop-number
decreases-loop-number l = length (lines_of l.lines.rest)
