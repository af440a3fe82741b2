use Rattle.cts_postorder.proofs.Statements.{tips_stand_below_lem}
use Rattle.cts_postorder.proofs.laws.tips_stand_below.Goals as goal

pub returns : goal.returns
returns g c = tips_stand_below_lem _
