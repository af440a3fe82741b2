use Rattle.cts_memo.proofs.Missing.{root_known}
use Rattle.cts_memo.proofs.laws.root_tells_all.Goals as goal

pub returns : goal.returns
returns c = root_known
