use Rattle.std.proofs.Common.{◌≡◌, ℕ, ◌+◌, ◌&&◌, not, cond, refl, arith}
use Rattle.cts_read.proofs.WordCounts.{begun_all, begun_next, begun_past}
use Rattle.cts_read.proofs.words.count_words.Goals as goal
use Rattle.cts_read.proofs.words.count_words.Goals.{then-after_blank+then-not-blank, else-after_blank, else-after_blank-via-then-after_blank+else-not-blank, else-after_blank-via-else-after_blank}

pub loop-byte-init : goal.loop-byte-init
loop-byte-init c = record { words = omega (arith, begun_all c.args.line.now); bytes = omega arith }

pub loop-byte-preserved : goal.loop-byte-preserved
loop-byte-preserved c =
    elim c.if-after_blank.branch [
      | then-after_blank+then-not-blank w ↦
          let added : c.if-after_blank.count ≡ c.loop-byte.count + cond (c.loop-byte.after_blank && not c.is_blank-blank.result) 1 0 =
          rw (w.if-after_blank.true, w.if-not-blank.true) w.count-is in
          record {
            words = rw w.after_blank-is (begun_next c.loop-byte.after_blank c.is_blank-blank.result c.args.line.now c.loop-byte.byte-index _
                c.loop-byte.count c.if-after_blank.count _ c.loop-byte-test.true c.is_blank-blank.ensures added c.loop-byte.invariant.words);
            bytes = omega (arith, w.count-is, c.loop-byte.invariant.bytes);
          }
      | else-after_blank w ↦
          let none : ◌≡◌ {A = ℕ} (cond (c.loop-byte.after_blank && not c.is_blank-blank.result) 1 0) 0 =
          elim w.else-after_blank.branch [
            | else-after_blank-via-then-after_blank+else-not-blank v ↦ rw (v.if-after_blank.true, v.if-not-blank.false) refl
            | else-after_blank-via-else-after_blank v ↦ rw v.if-after_blank.false refl
          ] in
          record {
            words = rw w.after_blank-is (begun_next c.loop-byte.after_blank c.is_blank-blank.result c.args.line.now c.loop-byte.byte-index _
                c.loop-byte.count c.if-after_blank.count _ c.loop-byte-test.true c.is_blank-blank.ensures
                (omega (arith, w.count-is, none)) c.loop-byte.invariant.words);
            bytes = omega (arith, w.count-is, c.loop-byte.invariant.bytes);
          }
    ]

pub returns : goal.returns
returns c =
    omega (
      arith,
      c.loop-byte.invariant.words,
      begun_past c.loop-byte.after_blank c.args.line.now c.loop-byte.byte-index (omega arith),
    )
