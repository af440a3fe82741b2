use Rattle.std.proofs.Common.{◌%◌, ◌∙◌, refl, arith}
use Rattle.cts_num.specs.Decimal.{pair_text}
use Rattle.cts_num.proofs.Pieces.{take_piece}
use Rattle.cts_num.proofs.Texts.{whole_text_pair, length-whole_text_pair}
use Rattle.cts_num.proofs.forward.write_four.Goals as goal

pub returns-clause-size : goal.returns-clause-size
returns-clause-size c = omega (arith, c.write_two-at.ensures.size, length-whole_text_pair c.args.number c.if-number-lt100.false)

pub returns-clause-written : goal.returns-clause-written
returns-clause-written c =
    let p = c.write_pair.ensures in
    take_piece c.write_two-at.result 2 c.write_pair.new.buffer c.write_two-at.new.text (pair_text (c.args.number % 100)) _ p.before p.written refl
    ∙ rw (c.write_two-at.ensures.written, whole_text_pair c.args.number c.if-number-lt100.false) refl
