use Rattle.cts_elmore.proofs.Unique.{figures_one}
use Rattle.cts_elmore.proofs.laws.figures_are_one.Goals as goal

pub returns : goal.returns
returns c = figures_one
