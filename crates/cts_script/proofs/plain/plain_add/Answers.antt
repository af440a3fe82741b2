use Rattle.cts_script.proofs.PlainSteps.{no_byte, plain_add}
use Rattle.cts_script.proofs.plain.plain_add.Goals as goal

pub returns-then-is_empty-clause-read : goal.returns-then-is_empty-clause-read
returns-then-is_empty-clause-read c =
    plain_add c.args.bytes.now c.in_ok-id.rest.now c.in_ok-x.rest.now c.in_ok-y.rest.now c.in_ok-cap.rest.now c.in_ok-id.id c.in_ok-x.x c.in_ok-y.y c.in_ok-cap.cap c.added.result
    c.in_ok-id.ensures.plain c.in_ok-x.ensures.plain c.in_ok-y.ensures.plain c.in_ok-cap.ensures.plain (no_byte _ _ c.is_empty.ensures c.if-is_empty.true) c.added.ensures.read
