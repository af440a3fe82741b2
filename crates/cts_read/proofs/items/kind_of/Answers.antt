use Rattle.std.proofs.Common.{sym, ap, ◌∙◌}
use Rattle.std.specs.Str.{bytes_eq}
use Rattle.cts_read.specs.Lines.{words_of}
use Rattle.cts_read.proofs.KindWords.{kind_buffer}
use Rattle.cts_read.proofs.items.kind_of.Goals as goal

pub returns-in-Some : goal.returns-in-Some
returns-in-Some c =
    kind_buffer (words_of c.args.words.now) c.in-Some.word.now (words_of c.in-Some.rest.now) c.in-Some.ensures.word
    (ap (bytes_eq c.in-Some.word.now) (sym c.as_slice.ensures) ∙ sym c.eq.ensures ∙ c.if-eq.true)
