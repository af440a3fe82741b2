use Rattle.cts_elmore.proofs.InRange.{figures_in_range}
use Rattle.cts_elmore.proofs.laws.figures_are_in_range.Goals as goal

pub returns : goal.returns
returns c = figures_in_range
