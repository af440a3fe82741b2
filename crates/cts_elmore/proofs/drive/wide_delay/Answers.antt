use Rattle.std.proofs.Common.{refl, arith}
use Rattle.cts_units.proofs.BufferDelay.{buffer_delay_le}
use Rattle.cts_elmore.proofs.drive.wide_delay.Goals as goal

pub overflow_mul-result : goal.overflow_mul-result
overflow_mul-result c = omega arith

pub overflow_mul-result-2 : goal.overflow_mul-result-2
overflow_mul-result-2 c = omega (arith, buffer_delay_le c.args.resistance c.args.load c.requires.resistance c.requires.load)

pub returns-clause-value : goal.returns-clause-value
returns-clause-value c = refl

pub returns-clause-bound : goal.returns-clause-bound
returns-clause-bound c = buffer_delay_le c.args.resistance c.args.load c.requires.resistance c.requires.load
