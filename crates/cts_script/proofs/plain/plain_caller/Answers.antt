use Rattle.cts_script.proofs.PlainSteps.{plain_caller}
use Rattle.cts_script.proofs.plain.plain_caller.Goals as goal

pub returns : goal.returns
returns c =
    plain_caller c.args.line.now c.in_ok-caller.caller c.in_ok-caller.rest.now (c.begins_with_digits.ensures c.if-not-begins_with_digits.false)
    c.in_ok-caller.ensures.plain
