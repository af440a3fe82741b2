use Rattle.cts_postorder.proofs.Statements.{tips_are_occurrences_lem}
use Rattle.cts_postorder.proofs.laws.tips_are_occurrences.Goals as goal

pub returns : goal.returns
returns g c = tips_are_occurrences_lem _
