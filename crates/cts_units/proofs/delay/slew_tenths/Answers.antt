use Rattle.std.proofs.Common.{refl}
use Rattle.cts_units.proofs.delay.slew_tenths.Goals as goal

pub returns : goal.returns
returns c = refl
