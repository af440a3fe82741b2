use Rattle.std.proofs.Common.{◌-◌, arith}
use Rattle.cts_num.proofs.RunNumbers.{run_after}
use Rattle.cts_num.proofs.Tables.{power_at}
use Rattle.cts_num.proofs.read.read_fraction.Goals as goal

pub overflow_mul-result : goal.overflow_mul-result
overflow_mul-result c =
    let power = power_at (c.args.to - c.args.from) (omega arith) in
    let run = run_after c.args.text.now c.args.from c.args.to c.args.front c.in-Some.number (omega arith) c.requires.front (omega arith) c.in-Some.ensures.number c.in-Some.ensures.bound in
    rw power (omega (arith, run.0))

pub overflow_add-result : goal.overflow_add-result
overflow_add-result c =
    let power = power_at (c.args.to - c.args.from) (omega arith) in
    let run = run_after c.args.text.now c.args.from c.args.to c.args.front c.in-Some.number (omega arith) c.requires.front (omega arith) c.in-Some.ensures.number c.in-Some.ensures.bound in
    rw power (omega (arith, run.0))

pub returns-in-Some-clause-number : goal.returns-in-Some-clause-number
returns-in-Some-clause-number c =
    let power = power_at (c.args.to - c.args.from) (omega arith) in
    let run = run_after c.args.text.now c.args.from c.args.to c.args.front c.in-Some.number (omega arith) c.requires.front (omega arith) c.in-Some.ensures.number c.in-Some.ensures.bound in
    rw power run.1
