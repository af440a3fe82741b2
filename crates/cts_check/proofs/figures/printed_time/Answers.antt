use Rattle.std.proofs.Common.{refl}
use Rattle.cts_check.proofs.figures.printed_time.Goals as goal

pub returns : goal.returns
returns c = refl
