use Rattle.std.proofs.Common.{arith}
use Rattle.cts_script.proofs.PlainSteps.{one_digit, two_digits}
use Rattle.cts_script.proofs.plain.begins_with_digits.Goals as goal

pub returns-in-48-to-57 : goal.returns-in-48-to-57
returns-in-48-to-57 c holds = one_digit c.args.line.now (omega arith) (omega arith, omega arith) (omega arith)

pub returns-in-48-to-57-2 : goal.returns-in-48-to-57-2
returns-in-48-to-57-2 c holds = two_digits c.args.line.now (omega arith) (omega arith, omega arith) (omega arith, omega arith) (omega arith)

pub returns-in-48-to-57-3 : goal.returns-in-48-to-57-3
returns-in-48-to-57-3 c holds = one_digit c.args.line.now (omega arith) (omega arith, omega arith) (omega arith)
