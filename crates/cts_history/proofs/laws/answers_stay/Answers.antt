use Rattle.cts_history.proofs.Longer.{answers_stay_lem}
use Rattle.cts_history.proofs.laws.answers_stay.Goals as goal

pub returns : goal.returns
returns c = answers_stay_lem
