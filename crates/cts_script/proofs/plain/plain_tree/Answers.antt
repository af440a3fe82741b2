use Rattle.cts_script.proofs.PlainSteps.{no_byte, plain_tree}
use Rattle.cts_script.proofs.plain.plain_tree.Goals as goal

pub returns-then-is_empty-clause-read : goal.returns-then-is_empty-clause-read
returns-then-is_empty-clause-read c = plain_tree c.args.bytes.now (no_byte _ _ c.is_empty.ensures c.if-is_empty.true)
