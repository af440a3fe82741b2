use Rattle.cts_undo.proofs.TakenBack.{have_inverses}
use Rattle.cts_undo.proofs.laws.edits_have_inverses.Goals as goal

pub returns : goal.returns
returns c = have_inverses
