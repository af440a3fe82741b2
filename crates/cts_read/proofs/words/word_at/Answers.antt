use Rattle.std.proofs.Common.{sym, ◌∙◌, arith}
use Rattle.cts_read.proofs.WordLists.{words_of_front, no_word}
use Rattle.cts_read.proofs.words.word_at.Goals as goal

pub returns-then-end-eq0-clause-word : goal.returns-then-end-eq0-clause-word
returns-then-end-eq0-clause-word c =
    sym c.without_blanks-text.ensures.words
    ∙ no_word c.without_blanks-text.result.now c.word_length-end.result c.if-end-eq0.true c.without_blanks-text.ensures.start c.word_length-end.ensures.stop

pub returns-clause-word : goal.returns-clause-word
returns-clause-word c =
    rw (c.split_at.ensures.front, c.split_at.ensures.back)
    (sym c.without_blanks-text.ensures.words
    ∙ words_of_front c.without_blanks-text.result.now c.word_length-end.result (omega arith) c.word_length-end.ensures.within c.word_length-end.ensures.word c.word_length-end.ensures.stop)
