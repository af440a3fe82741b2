use Rattle.cts_undo.proofs.OneReply.{replies_one}
use Rattle.cts_undo.proofs.laws.replies_are_one.Goals as goal

pub returns : goal.returns
returns c = replies_one
