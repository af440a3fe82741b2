use Rattle.cts_history.proofs.Openings.{history_is_one_lem}
use Rattle.cts_history.proofs.laws.history_is_one.Goals as goal

pub returns : goal.returns
returns c = history_is_one_lem
