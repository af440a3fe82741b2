use Rattle.std.proofs.Common.{◌≡◌, ◌+◌, ◌-◌, arith, append_assoc}
use Rattle.cts_num.proofs.Texts.{whole_text_pair, length-whole_text_pair}
use Rattle.cts_num.proofs.write.write_word.Goals as goal

pub overflow_sub-at : goal.overflow_sub-at
overflow_sub-at c = omega (arith, length-whole_text_pair c.loop-rest.rest c.loop-rest-test.true)

pub write_pair-requires-clause-room : goal.write_pair-requires-clause-room
write_pair-requires-clause-room c = omega (arith, length-whole_text_pair c.loop-rest.rest c.loop-rest-test.true)

pub loop-rest-preserved : goal.loop-rest-preserved
loop-rest-preserved c =
    let l = c.loop-rest in
    let long = length-whole_text_pair l.rest c.loop-rest-test.true in
    let e : l.at - 2 + 2 ≡ l.at = omega arith in
    record {
      room = omega arith;
      below = omega arith;
      moved = omega arith;
      text = rw (c.write_pair.ensures.written, e) (rw (whole_text_pair l.rest c.loop-rest-test.true, append_assoc) at l.invariant.text);
    }
