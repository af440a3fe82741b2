use Rattle.std.proofs.Common.{◌≡◌, ◌+◌, ◌*◌, ◌^◌, ◌≤◌, get_or, below_more, sym, arith, pow-suc, ap, ◌∙◌, add-one}
use Rattle.std.proofs.Math.Nat.{pow-le-pow_right}
use Rattle.std.specs.Char.{IsAsciiDigit}
use Rattle.cts_num.proofs.Fronts.{passes_digit, digit_number-none, digit_number_more}
use Rattle.cts_report_reader.proofs.digits.digits.Goals as goal

pub loop-size-init : goal.loop-size-init
loop-size-init c = record {
  inside = omega arith;
  few = omega arith;
  digits = λ k lt. absurd (omega (arith, lt));
  number = sym (digit_number-none c.args.bytes.now);
  small = omega arith;
}

pub overflow_mul-number : goal.overflow_mul-number
overflow_mul-number c =
    let l = c.loop-size in
    let unit : 10 ^ l.size ≤ 10 ^ 17 = pow-le-pow_right {n = 10} (omega arith) {i = l.size} {j = 17} (omega arith) in
    omega (arith, l.invariant.small, unit)

pub overflow_add-number : goal.overflow_add-number
overflow_add-number c =
    let l = c.loop-size in
    let d : IsAsciiDigit (get_or c.args.bytes.now l.size 0) = passes_digit _ (sym c.is_ascii_digit.ensures.value ∙ c.if-is_ascii_digit.true) in
    let unit : 10 ^ l.size ≤ 10 ^ 17 = pow-le-pow_right {n = 10} (omega arith) {i = l.size} {j = 17} (omega arith) in
    omega (arith, l.invariant.small, unit, c.from.ensures, d.1)

pub loop-size-preserved : goal.loop-size-preserved
loop-size-preserved c =
    let l = c.loop-size in
    let text = c.args.bytes.now in
    let d : IsAsciiDigit (get_or text l.size 0) = passes_digit _ (sym c.is_ascii_digit.ensures.value ∙ c.if-is_ascii_digit.true) in
    let more = digit_number_more text l.size (omega arith) d in
    let unit : 10 ^ (l.size + 1) ≡ 10 ^ l.size * 10 = ap (λ n. 10 ^ n) (add-one l.size) ∙ pow-suc 10 l.size in
    record {
      inside = omega arith;
      few = omega arith;
      digits = below_more _ _ l.invariant.digits d;
      number = omega (arith, more, l.invariant.number, c.from.ensures);
      small = omega (arith, l.invariant.small, unit, c.from.ensures, d.1);
    }
