use Rattle.std.proofs.Common.{refl}
use Rattle.cts_instance.specs.FirstFault.{counts_with}
use Rattle.cts_instance.proofs.counts.BlockCounts.with.Goals as goal

pub returns-in-Buffer : goal.returns-in-Buffer
unfolding counts_with
returns-in-Buffer c = rw c.in-Buffer.is refl

pub returns-in-All : goal.returns-in-All
unfolding counts_with
returns-in-All c = rw c.in-All.is refl
