use Rattle.cts_undo.proofs.TakenBack.{take_back}
use Rattle.cts_undo.proofs.laws.inverses_take_back.Goals as goal

pub returns : goal.returns
returns c = take_back
