use Rattle.cts_postorder.proofs.Statements.{fronts_keep_trees_lem}
use Rattle.cts_postorder.proofs.laws.fronts_keep_trees.Goals as goal

pub returns : goal.returns
returns g c = fronts_keep_trees_lem _
