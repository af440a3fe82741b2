use Rattle.cts_script.proofs.PlainSteps.{no_byte, plain_move}
use Rattle.cts_script.proofs.plain.plain_move.Goals as goal

pub returns-then-is_empty-clause-read : goal.returns-then-is_empty-clause-read
returns-then-is_empty-clause-read c =
    plain_move c.args.bytes.now c.in_ok-id.rest.now c.in_ok-x.rest.now c.in_ok-y.rest.now c.in_ok-id.id c.in_ok-x.x c.in_ok-y.y c.moved.result
    c.in_ok-id.ensures.plain c.in_ok-x.ensures.plain c.in_ok-y.ensures.plain (no_byte _ _ c.is_empty.ensures c.if-is_empty.true) c.moved.ensures.read
