use Rattle.cts_history.proofs.Once.{accepted_stand_once_lem}
use Rattle.cts_history.proofs.laws.accepted_stand_once.Goals as goal

pub returns : goal.returns
returns c = accepted_stand_once_lem
