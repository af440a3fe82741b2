use Rattle.cts_memo.proofs.Numbering.{numbered_finished}
use Rattle.cts_memo.proofs.laws.numbered_is_finished.Goals as goal

pub returns : goal.returns
returns c = numbered_finished
