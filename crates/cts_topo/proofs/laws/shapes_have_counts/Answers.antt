use Rattle.cts_topo.proofs.Counts.{shapes_have_counts_lem}
use Rattle.cts_topo.proofs.laws.shapes_have_counts.Goals as goal

pub returns : goal.returns
returns c = shapes_have_counts_lem
