use Rattle.cts_postorder.proofs.Statements.{children_come_before_lem}
use Rattle.cts_postorder.proofs.laws.children_come_before.Goals as goal

pub returns : goal.returns
returns g c = children_come_before_lem _
