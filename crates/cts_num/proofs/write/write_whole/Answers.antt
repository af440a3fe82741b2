use Rattle.std.proofs.Common.{◌^◌, ◌≤◌, arith, append_assoc}
use Rattle.std.proofs.Math.Nat.{mod-mod}
use Rattle.cts_num.proofs.Texts.{whole_text_split, length-whole_text_split}
use Rattle.cts_num.proofs.write.write_whole.Goals as goal

pub write_low-requires-clause-room : goal.write_low-requires-clause-room
write_low-requires-clause-room c = omega (arith, length-whole_text_split 16 c.loop-rest.rest (omega (arith, c.loop-rest-test.true, c.from.ensures)))

pub overflow_sub-at : goal.overflow_sub-at
overflow_sub-at c = omega (arith, length-whole_text_split 16 c.loop-rest.rest (omega (arith, c.loop-rest-test.true, c.from.ensures)))

pub loop-rest-preserved : goal.loop-rest-preserved
loop-rest-preserved c =
    let l = c.loop-rest in
    let big : 10 ^ 16 ≤ l.rest = omega (arith, c.loop-rest-test.true, c.from.ensures) in
    let long = length-whole_text_split 16 l.rest big in
    let h = c.split-chunks.ensures in
    record {
      room = rw h.chunks (omega arith);
      below = omega arith;
      moved = rw h.chunks (omega arith);
      text = rw (c.write_low.ensures.written, h.chunks, h.low, mod-mod l.rest (10 ^ 16)) (rw (whole_text_split 16 l.rest big, append_assoc) at l.invariant.text);
    }
