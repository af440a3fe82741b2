use Rattle.cts_history.proofs.Openings.{first_line_is_one_lem}
use Rattle.cts_history.proofs.laws.first_line_is_one.Goals as goal

pub returns : goal.returns
returns c = first_line_is_one_lem
