use Rattle.cts_trunk.proofs.Shifts.{stages_shift_alike_lem}
use Rattle.cts_trunk.proofs.laws.stages_shift_alike.Goals as goal

pub returns : goal.returns
returns c = stages_shift_alike_lem
