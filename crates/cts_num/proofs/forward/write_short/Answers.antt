use Rattle.std.proofs.Common.{◌≡◌, ◌+◌, ◌-◌, ◌%◌, ◌∙◌, refl, arith}
use Rattle.cts_num.specs.Decimal.{padded_text}
use Rattle.cts_num.proofs.Pieces.{take_piece}
use Rattle.cts_num.proofs.Texts.{length-padded_text, length-whole_text_split, whole_text_split}
use Rattle.cts_num.proofs.forward.write_short.Goals as goal

pub returns-clause-size : goal.returns-clause-size
returns-clause-size c = omega (arith, c.write_four-end.ensures.size, length-whole_text_split 4 c.args.number (omega (arith, c.if-number-lt10000.false)))

pub returns-clause-written : goal.returns-clause-written
returns-clause-written c =
    let n = c.args.number in
    let at = c.write_four-end.result in
    let low = c.write_low.ensures in
    let e : at + 4 - 4 ≡ at = omega arith in
    take_piece at 4 c.write_low.new.buffer c.write_four-end.new.text (padded_text 4 (n % 10000)) _ (rw e at low.before) (rw e at low.written) (length-padded_text 4 (n % 10000) (omega arith))
    ∙ rw (c.write_four-end.ensures.written, whole_text_split 4 n (omega (arith, c.if-number-lt10000.false))) refl
