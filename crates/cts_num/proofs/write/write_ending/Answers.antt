use Rattle.std.proofs.Common.{◌^◌, ◌≤◌, length, ap, arith}
use Rattle.cts_num.specs.Decimal.{fraction_text, whole_text}
use Rattle.cts_num.proofs.Lengths.{length-decimal_text, length-decimal_text_cut}
use Rattle.cts_num.proofs.Texts.{decimal_text-parts, decimal_text-cut}
use Rattle.cts_num.proofs.write.write_ending.Goals as goal

pub write_fraction-whole-requires-clause-room : goal.write_fraction-whole-requires-clause-room
write_fraction-whole-requires-clause-room c = omega (arith, length-decimal_text c.args.places c.args.value, c.requires.room)

pub write_word-requires-clause-room : goal.write_word-requires-clause-room
write_word-requires-clause-room c =
    let f = c.write_fraction-whole.ensures in
    rw f.whole (omega (arith, length-decimal_text c.args.places c.args.value, c.requires.room, f.end))

pub returns-then-value-from-clause-start : goal.returns-then-value-from-clause-start
returns-then-value-from-clause-start c =
    let f = c.write_fraction-whole.ensures in
    let start = c.write_word.ensures.start in
    let whole = ap (λ n. length (whole_text n)) f.whole in
    omega (arith, length-decimal_text c.args.places c.args.value, start, f.end, whole)

pub returns-then-value-from-clause-written : goal.returns-then-value-from-clause-written
returns-then-value-from-clause-written c =
    let f = c.write_fraction-whole.ensures in
    rw (decimal_text-parts c.args.places c.args.value) (rw (f.whole, f.written) at c.write_word.ensures.written)

pub write_fraction-rest-requires-clause-room : goal.write_fraction-rest-requires-clause-room
write_fraction-rest-requires-clause-room c =
    let big : 10 ^ 16 ≤ c.args.value = omega (arith, c.if-value-from.false, c.from.ensures) in
    let s = c.split-high.ensures in
    rw s.low (omega (arith, length-decimal_text_cut c.args.places c.args.value c.requires.places big, c.requires.room))

pub write_low-requires-clause-room : goal.write_low-requires-clause-room
write_low-requires-clause-room c =
    let big : 10 ^ 16 ≤ c.args.value = omega (arith, c.if-value-from.false, c.from.ensures) in
    let low = ap (λ n. length (fraction_text c.args.places n)) c.split-high.ensures.low in
    omega (arith, length-decimal_text_cut c.args.places c.args.value c.requires.places big, c.requires.room, c.write_fraction-rest.ensures.end, low)

pub overflow_sub-end : goal.overflow_sub-end
overflow_sub-end c =
    let big : 10 ^ 16 ≤ c.args.value = omega (arith, c.if-value-from.false, c.from.ensures) in
    let low = ap (λ n. length (fraction_text c.args.places n)) c.split-high.ensures.low in
    omega (arith, length-decimal_text_cut c.args.places c.args.value c.requires.places big, c.requires.room, c.write_fraction-rest.ensures.end, low)

pub write_whole-requires-clause-room : goal.write_whole-requires-clause-room
write_whole-requires-clause-room c =
    let big : 10 ^ 16 ≤ c.args.value = omega (arith, c.if-value-from.false, c.from.ensures) in
    let low = ap (λ n. length (fraction_text c.args.places n)) c.split-high.ensures.low in
    rw c.split-high.ensures.chunks
    (omega (arith, length-decimal_text_cut c.args.places c.args.value c.requires.places big, c.requires.room, c.write_fraction-rest.ensures.end, low))

pub returns-clause-start : goal.returns-clause-start
returns-clause-start c =
    let big : 10 ^ 16 ≤ c.args.value = omega (arith, c.if-value-from.false, c.from.ensures) in
    let s = c.split-high.ensures in
    let low = ap (λ n. length (fraction_text c.args.places n)) s.low in
    let high = ap (λ n. length (whole_text n)) s.chunks in
    let room = length-decimal_text_cut c.args.places c.args.value c.requires.places big in
    omega (arith, room, c.requires.room, c.write_fraction-rest.ensures.end, low, high, c.write_whole.ensures.start)

pub returns-clause-written : goal.returns-clause-written
returns-clause-written c =
    let s = c.split-high.ensures in
    let f = c.write_fraction-rest.ensures in
    let big : 10 ^ 16 ≤ c.args.value = omega (arith, c.if-value-from.false, c.from.ensures) in
    rw (decimal_text-cut c.args.places c.args.value c.requires.places big)
    (rw (c.write_low.ensures.written, f.written, f.whole, s.chunks, s.low) at c.write_whole.ensures.written)
