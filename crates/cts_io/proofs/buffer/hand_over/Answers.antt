use Rattle.std.proofs.Common.{arith}
use Rattle.cts_io.proofs.Given.{puts_sent, puts_lost, puts_failed}
use Rattle.cts_io.proofs.buffer.hand_over.Goals as goal

pub returns-then-failed : goal.returns-then-failed
returns-then-failed g c = rw c.if-failed.true (puts_lost _ _ _ _)

pub returns-in-Ok : goal.returns-in-Ok
returns-in-Ok g c =
    rw c.if-failed.false (puts_sent _ _ _ c.args.bytes.now _ _ c.in-Ok.ensures.ok c.in-Ok.ensures.counted c.saturating_add.ensures)

pub returns-in-Err : goal.returns-in-Err
returns-in-Err g c =
    rw c.if-failed.false (puts_failed _ _ _ c.args.bytes.now _ _ _ (omega (arith, c.in-Err.ensures.short)) c.in-Err.ensures.cut c.in-Err.ensures.write_fault c.in-Err.ensures.counted (cc))
