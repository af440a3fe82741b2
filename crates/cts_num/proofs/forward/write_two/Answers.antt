use Rattle.std.proofs.Common.{ap, sym, ◌∙◌, length, refl, arith}
use Rattle.std.proofs.Math.Seq.{take-suc-set}
use Rattle.cts_num.specs.Decimal.{pair_text}
use Rattle.cts_num.proofs.Pieces.{take_piece}
use Rattle.cts_num.proofs.Texts.{whole_text_one, whole_text_two}
use Rattle.cts_num.proofs.forward.write_two.Goals as goal

pub returns-then-number-lt10-clause-size : goal.returns-then-number-lt10-clause-size
returns-then-number-lt10-clause-size c = sym (ap length (whole_text_one c.args.number c.if-number-lt10.true))

pub returns-then-number-lt10-clause-written : goal.returns-then-number-lt10-clause-written
returns-then-number-lt10-clause-written c =
    take-suc-set c.args.text.now 0 _ (omega (arith, c.requires.room)) ∙ sym (whole_text_one c.args.number c.if-number-lt10.true)

pub returns-else-number-lt10-clause-size : goal.returns-else-number-lt10-clause-size
returns-else-number-lt10-clause-size c = sym (ap length (whole_text_two c.args.number c.if-number-lt10.false c.requires.number))

pub returns-else-number-lt10-clause-written : goal.returns-else-number-lt10-clause-written
returns-else-number-lt10-clause-written c =
    let p = c.write_pair.ensures in
    take_piece 0 2 _ c.args.text.now (pair_text c.args.number) _ p.before p.written refl ∙ sym (whole_text_two c.args.number c.if-number-lt10.false c.requires.number)
