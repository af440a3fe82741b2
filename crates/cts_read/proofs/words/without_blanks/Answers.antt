use Rattle.std.proofs.Common.{sym, ◌∙◌, arith}
use Rattle.cts_read.proofs.WordLists.{words_of_drop}
use Rattle.cts_read.proofs.words.without_blanks.Goals as goal

pub loop-at-preserved : goal.loop-at-preserved
loop-at-preserved c =
    words_of_drop c.args.line.now c.loop-at.at (omega arith) (sym c.is_blank.ensures ∙ c.if-not-is_blank.false) ∙ c.loop-at.invariant
