use Rattle.cts_script.proofs.PlainSteps.{no_byte, plain_remove}
use Rattle.cts_script.proofs.plain.plain_remove.Goals as goal

pub returns-then-is_empty-clause-read : goal.returns-then-is_empty-clause-read
returns-then-is_empty-clause-read c =
    plain_remove c.args.bytes.now c.in_ok-id.rest.now c.in_ok-id.id c.removed.result c.in_ok-id.ensures.plain
    (no_byte _ _ c.is_empty.ensures c.if-is_empty.true) c.removed.ensures.read
