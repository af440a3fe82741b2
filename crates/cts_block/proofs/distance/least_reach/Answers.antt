use Rattle.std.proofs.Common.{arith}
use Rattle.std.proofs.lemmas.Int.{ints}
use Rattle.cts_block.proofs.distance.least_reach.Goals as goal

pub returns-then-from-bottom : goal.returns-then-from-bottom
returns-then-from-bottom c = λ p on. omega (arith, ints, on.column, on.low)

pub returns-then-top-from : goal.returns-then-top-from
returns-then-top-from c = λ p on. omega (arith, ints, on.column, on.high, c.args.segment.vertical)
