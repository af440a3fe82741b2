use Rattle.std.proofs.Common.{arith}
use Rattle.cts_merge.proofs.merging.doubled.Goals as goal

pub returns-clause-value : goal.returns-clause-value
returns-clause-value c = omega arith
