use Rattle.std.proofs.Common.{◌≡◌, ◌+◌, ◌-◌, ◌≤◌, length, get_or, take, ap, sym, ◌∙◌, arith}
use Rattle.std.specs.Char.{IsAsciiDigit}
use Rattle.cts_num.specs.Number.{digit_number}
use Rattle.cts_num.proofs.Fronts.{passes_digit, fails_digit, digit_number-none, digit_number-all, digit_number_more, digit_number_skip, digit_number-grows}
use Rattle.cts_num.proofs.canonical.all_digits.Goals as goal
use Rattle.cts_num.proofs.canonical.all_digits.Goals.{then-is_ascii_digit+else-number-ge-LAST_FRONT, else-is_ascii_digit}

pub loop-byte-init : goal.loop-byte-init
loop-byte-init c = record { number = sym (digit_number-none c.args.text.now); small = omega arith }

pub returns-then-number-ge-LAST_FRONT : goal.returns-then-number-ge-LAST_FRONT
returns-then-number-ge-LAST_FRONT c =
    let l = c.loop-byte in
    let text = c.args.text.now in
    let i = l.byte-index in
    let d : IsAsciiDigit (get_or text i 0) = passes_digit _ (sym c.if-is_ascii_digit.ensures.value) in
    let more = digit_number_more text i (omega arith) d in
    let e : i + 1 + (length text - i - 1) ≡ length text = omega arith in
    let grows : digit_number (take (i + 1) text) ≤ digit_number (take (i + 1 + (length text - i - 1)) text) =
    digit_number-grows text (i + 1) (length text - i - 1) (omega arith) in
    let all = ap (λ n. digit_number (take n text)) e ∙ digit_number-all text (length text) (omega arith) in
    omega (arith, more, grows, all, l.invariant.number, c.if-number-ge-LAST_FRONT.true)

pub loop-byte-preserved : goal.loop-byte-preserved
loop-byte-preserved c =
    let l = c.loop-byte in
    let text = c.args.text.now in
    elim c.if-is_ascii_digit.branch [
      | then-is_ascii_digit+else-number-ge-LAST_FRONT w ↦
          let d : IsAsciiDigit (get_or text l.byte-index 0) = passes_digit _ (sym w.if-is_ascii_digit.ensures.value) in
          let more = digit_number_more text l.byte-index (omega arith) d in
          record { number = omega (arith, more, l.invariant.number, w.number-is); small = omega (arith, d.1, w.number-is) }
      | else-is_ascii_digit w ↦
          let d = fails_digit _ (sym w.if-is_ascii_digit.ensures.value) in
          let skip = digit_number_skip text l.byte-index (omega arith) d in
          record { number = omega (arith, skip, l.invariant.number, w.number-is); small = omega (arith, w.number-is) }
    ]

pub returns : goal.returns
returns c =
    let l = c.loop-byte in
    (omega (arith, l.invariant.number, digit_number-all c.args.text.now l.byte-index (omega arith)), l.invariant.small)
