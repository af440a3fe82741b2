use Rattle.std.proofs.Common.{◌≡◌, ◌+◌, ◌-◌, length, ap, sym, arith, append-nil, div-one}
use Rattle.std.proofs.lemmas.List.{drop-set, drop_all}
use Rattle.cts_num.specs.Decimal.{fraction_text}
use Rattle.cts_num.proofs.Texts.{fraction_text-zero, fraction_text-some, length-fraction_text-some}
use Rattle.cts_num.proofs.write.write_fraction.Goals as goal

pub returns-then-places-eq0-clause-whole : goal.returns-then-places-eq0-clause-whole
returns-then-places-eq0-clause-whole c = rw c.if-places-eq0.true (sym (div-one c.args.number))

pub returns-then-places-eq0-clause-end : goal.returns-then-places-eq0-clause-end
returns-then-places-eq0-clause-end c =
    omega (arith, ap (λ p. length (fraction_text p c.args.number)) c.if-places-eq0.true, ap length (fraction_text-zero c.args.number))

pub returns-then-places-eq0-clause-written : goal.returns-then-places-eq0-clause-written
returns-then-places-eq0-clause-written c =
    rw (c.if-places-eq0.true, fraction_text-zero c.args.number) (drop_all (length c.args.buffer.now) c.args.buffer.now (omega arith))

pub write_low-whole-requires-clause-room : goal.write_low-whole-requires-clause-room
write_low-whole-requires-clause-room c = omega (arith, length-fraction_text-some c.args.places c.args.number (omega (arith, c.if-places-eq0.false)), c.requires.room)

pub overflow_sub-point : goal.overflow_sub-point
overflow_sub-point c = omega (arith, length-fraction_text-some c.args.places c.args.number (omega (arith, c.if-places-eq0.false)), c.requires.room)

pub overflow_sub-point-2 : goal.overflow_sub-point-2
overflow_sub-point-2 c = omega (arith, length-fraction_text-some c.args.places c.args.number (omega (arith, c.if-places-eq0.false)), c.requires.room)

pub bounds-buffer-point : goal.bounds-buffer-point
bounds-buffer-point c = omega (arith, length-fraction_text-some c.args.places c.args.number (omega (arith, c.if-places-eq0.false)), c.requires.room)

pub returns-clause-end : goal.returns-clause-end
returns-clause-end c = omega (arith, length-fraction_text-some c.args.places c.args.number (omega (arith, c.if-places-eq0.false)), c.requires.room)

pub returns-clause-written : goal.returns-clause-written
returns-clause-written c =
    let p = c.args.places in
    let long = length c.args.buffer.now in
    let room = length-fraction_text-some p c.args.number (omega (arith, c.if-places-eq0.false)) in
    let buffer = c.write_low-whole.new.buffer in
    let point = long - p - 1 in
    let e : point + 1 ≡ long - p = omega (arith, room, c.requires.room) in
    rw (
      drop-set buffer point 46 (omega (arith, room, c.requires.room)),
      e,
      c.write_low-whole.ensures.written,
      drop_all long c.args.buffer.now (omega arith),
      append-nil,
      fraction_text-some p c.args.number (omega (arith, c.if-places-eq0.false)),
    )
