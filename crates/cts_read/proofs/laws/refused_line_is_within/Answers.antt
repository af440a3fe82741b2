use Rattle.cts_read.proofs.Refusals.{refused_within}
use Rattle.cts_read.proofs.laws.refused_line_is_within.Goals as goal

pub returns : goal.returns
returns c = refused_within
