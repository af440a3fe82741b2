use Rattle.std.proofs.Common.{◌≡◌, ◌+◌, ◌*◌, ◌^◌, ◌≤◌, get_or, below_more, sym, arith, pow-suc, ap, ◌∙◌, add-one}
use Rattle.std.proofs.Math.Nat.{pow-le-pow_right}
use Rattle.std.specs.Char.{IsAsciiDigit}
use Rattle.cts_num.proofs.Fronts.{passes_digit, digit_number-none, digit_number_more}
use Rattle.cts_report_reader.proofs.digits.all_digits.Goals as goal

pub loop-byte-init : goal.loop-byte-init
loop-byte-init c = record { digits = λ k lt. absurd (omega (arith, lt)); number = sym (digit_number-none c.args.text.now); small = omega arith }

pub overflow_mul-number : goal.overflow_mul-number
overflow_mul-number c =
    let l = c.loop-byte in
    let unit : 10 ^ l.byte-index ≤ 10 ^ 16 = pow-le-pow_right {n = 10} (omega arith) {i = l.byte-index} {j = 16} (omega arith) in
    omega (arith, l.invariant.small, unit)

pub overflow_add-number : goal.overflow_add-number
overflow_add-number c =
    let l = c.loop-byte in
    let d : IsAsciiDigit (get_or c.args.text.now l.byte-index 0) = passes_digit _ (sym c.is_ascii_digit.ensures.value ∙ c.if-not-is_ascii_digit.false) in
    let unit : 10 ^ l.byte-index ≤ 10 ^ 16 = pow-le-pow_right {n = 10} (omega arith) {i = l.byte-index} {j = 16} (omega arith) in
    omega (arith, l.invariant.small, unit, c.from.ensures, d.1)

pub loop-byte-preserved : goal.loop-byte-preserved
loop-byte-preserved c =
    let l = c.loop-byte in
    let text = c.args.text.now in
    let d : IsAsciiDigit (get_or text l.byte-index 0) = passes_digit _ (sym c.is_ascii_digit.ensures.value ∙ c.if-not-is_ascii_digit.false) in
    let more = digit_number_more text l.byte-index (omega arith) d in
    let unit : 10 ^ (l.byte-index + 1) ≡ 10 ^ l.byte-index * 10 = ap (λ n. 10 ^ n) (add-one l.byte-index) ∙ pow-suc 10 l.byte-index in
    record {
      digits = below_more _ _ l.invariant.digits d;
      number = omega (arith, more, l.invariant.number, c.from.ensures);
      small = omega (arith, l.invariant.small, unit, c.from.ensures, d.1);
    }
