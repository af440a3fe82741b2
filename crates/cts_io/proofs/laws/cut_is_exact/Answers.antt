use Rattle.cts_io.proofs.Given.{cut_exact}
use Rattle.cts_io.proofs.laws.cut_is_exact.Goals as goal

pub returns : goal.returns
returns c = cut_exact
