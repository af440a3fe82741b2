use Rattle.cts_after.proofs.GoOn.{edits_go_on_lem}
use Rattle.cts_after.proofs.laws.edits_go_on.Goals as goal

pub returns : goal.returns
returns c = edits_go_on_lem
