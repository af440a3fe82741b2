use Rattle.std.proofs.Common.{sym, ap, ◌∙◌, length, arith}
use Rattle.cts_num.specs.Decimal.{whole_text}
use Rattle.cts_num.proofs.Lengths.{length-decimal_text, length-fraction_text_same}
use Rattle.cts_num.proofs.Texts.{decimal_text-parts, fraction_text-low}
use Rattle.cts_num.proofs.forward.write_decimal.Goals as goal

pub write_short-point-requires-clause-number : goal.write_short-point-requires-clause-number
write_short-point-requires-clause-number c = (rw c.in-Some.is at c.short_parts.ensures).2

pub returns-in-Some-clause-size : goal.returns-in-Some-clause-size
returns-in-Some-clause-size c =
    let parts = rw c.in-Some.is at c.short_parts.ensures in
    let whole = c.write_short-point.ensures.size ∙ ap (λ n. length (whole_text n)) parts.0 in
    let p = c.args.places in
    let v = c.args.value in
    omega (arith, whole, c.write_point.ensures.size, length-fraction_text_same p c.in-Some.low v, length-decimal_text p v)

pub returns-in-Some-clause-written : goal.returns-in-Some-clause-written
returns-in-Some-clause-written c =
    let parts = rw c.in-Some.is at c.short_parts.ensures in
    let p = c.args.places in
    c.write_point.ensures.written
    ∙ rw (c.write_short-point.ensures.written, parts.0, ← fraction_text-low p c.args.value c.in-Some.low parts.1) (sym (decimal_text-parts p c.args.value))
