use Rattle.cts_trunk.proofs.Shifts.{delays_shift_alike_lem}
use Rattle.cts_trunk.proofs.laws.delays_shift_alike.Goals as goal

pub returns : goal.returns
returns c = delays_shift_alike_lem
