use Rattle.std.proofs.Common.{get_or, slice_index, sym, arith}
use Rattle.std.specs.Char.{IsAsciiDigit}
use Rattle.cts_num.proofs.Fronts.{passes_digit, digit_number_more}
use Rattle.cts_num.proofs.Steps.{range_more, capped_below, capped_rest}
use Rattle.cts_num.proofs.read.read_digits.Goals as goal

pub loop-at-preserved : goal.loop-at-preserved
loop-at-preserved c =
    let l = c.loop-at in
    let text = c.args.text.now in
    let d : IsAsciiDigit (get_or text l.at 0) = passes_digit _ (sym c.if-is_ascii_digit.ensures.value) in
    let more = digit_number_more text l.at (omega arith) d in
    record {
      from = omega arith;
      to = omega arith;
      digits = range_more (λ k. IsAsciiDigit (slice_index text k)) c.args.from l.at l.invariant.digits d;
      number = rw more (rw c.from.ensures (capped_below _ _ l.number l.invariant.number (omega (arith, d.0, d.1))));
    }

pub returns-then-number-clause-number : goal.returns-then-number-clause-number
returns-then-number-clause-number c =
    let l = c.loop-at in
    let text = c.args.text.now in
    let d : IsAsciiDigit (get_or text l.at 0) = passes_digit _ (sym c.if-is_ascii_digit.ensures.value) in
    let r = c.digits_end in
    capped_rest text l.at r.result l.number (omega (arith, r.ensures.from)) (omega (arith, r.ensures.to)) d r.ensures.digits l.invariant.number (omega arith)

pub returns-else-is_ascii_digit-clause-number : goal.returns-else-is_ascii_digit-clause-number
returns-else-is_ascii_digit-clause-number c = c.loop-at.invariant.number

pub returns-after-loop-at-clause-number : goal.returns-after-loop-at-clause-number
returns-after-loop-at-clause-number c = c.loop-at.invariant.number
