use Rattle.cts_script.proofs.PlainSteps.{no_byte, plain_cap}
use Rattle.cts_script.proofs.plain.plain_cap.Goals as goal

pub returns-then-is_empty-clause-read : goal.returns-then-is_empty-clause-read
returns-then-is_empty-clause-read c =
    plain_cap c.args.bytes.now c.in_ok-id.rest.now c.in_ok-cap.rest.now c.in_ok-id.id c.in_ok-cap.cap c.loaded.result
    c.in_ok-id.ensures.plain c.in_ok-cap.ensures.plain (no_byte _ _ c.is_empty.ensures c.if-is_empty.true) c.loaded.ensures.read
