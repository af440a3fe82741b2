use Rattle.cts_postorder.proofs.Statements.{trees_are_subtrees_lem}
use Rattle.cts_postorder.proofs.laws.trees_are_subtrees.Goals as goal

pub returns : goal.returns
returns g c = trees_are_subtrees_lem _
