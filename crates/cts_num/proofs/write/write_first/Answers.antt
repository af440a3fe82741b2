use Rattle.std.proofs.Common.{◌≡◌, ◌+◌, ◌-◌, ap, length, arith}
use Rattle.std.proofs.lemmas.List.{drop-set}
use Rattle.cts_num.proofs.Texts.{whole_text_one, whole_text_two}
use Rattle.cts_num.proofs.write.write_first.Goals as goal

pub overflow_sub-buffer : goal.overflow_sub-buffer
overflow_sub-buffer c = omega (arith, ap length (whole_text_one c.args.number c.if-number-lt10.true))

pub bounds-buffer-end : goal.bounds-buffer-end
bounds-buffer-end c = omega (arith, ap length (whole_text_one c.args.number c.if-number-lt10.true))

pub overflow_sub-result : goal.overflow_sub-result
overflow_sub-result c = omega (arith, ap length (whole_text_one c.args.number c.if-number-lt10.true))

pub overflow_sub-end : goal.overflow_sub-end
overflow_sub-end c = omega (arith, ap length (whole_text_two c.args.number c.if-number-lt10.false c.requires.small))

pub write_pair-requires-clause-room : goal.write_pair-requires-clause-room
write_pair-requires-clause-room c = omega (arith, ap length (whole_text_two c.args.number c.if-number-lt10.false c.requires.small))

pub overflow_sub-result-else-number-lt10 : goal.overflow_sub-result-else-number-lt10
overflow_sub-result-else-number-lt10 c = omega (arith, ap length (whole_text_two c.args.number c.if-number-lt10.false c.requires.small))

pub returns-then-number-lt10-clause-start : goal.returns-then-number-lt10-clause-start
returns-then-number-lt10-clause-start c = omega (arith, ap length (whole_text_one c.args.number c.if-number-lt10.true))

pub returns-then-number-lt10-clause-written : goal.returns-then-number-lt10-clause-written
returns-then-number-lt10-clause-written c =
    let long = ap length (whole_text_one c.args.number c.if-number-lt10.true) in
    let e : c.args.end - 1 + 1 ≡ c.args.end = omega arith in
    rw (drop-set c.args.buffer.now (c.args.end - 1) _ (omega arith), e, whole_text_one c.args.number c.if-number-lt10.true)

pub returns-else-number-lt10-clause-start : goal.returns-else-number-lt10-clause-start
returns-else-number-lt10-clause-start c = omega (arith, ap length (whole_text_two c.args.number c.if-number-lt10.false c.requires.small))

pub returns-else-number-lt10-clause-written : goal.returns-else-number-lt10-clause-written
returns-else-number-lt10-clause-written c =
    let long = ap length (whole_text_two c.args.number c.if-number-lt10.false c.requires.small) in
    let e : c.args.end - 2 + 2 ≡ c.args.end = omega arith in
    rw (c.write_pair.ensures.written, e, whole_text_two c.args.number c.if-number-lt10.false c.requires.small)
