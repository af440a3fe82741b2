use Rattle.cts_history.proofs.Openings.{fronts_open_lem}
use Rattle.cts_history.proofs.laws.fronts_open.Goals as goal

pub returns : goal.returns
returns c = fronts_open_lem
