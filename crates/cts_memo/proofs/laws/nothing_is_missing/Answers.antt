use Rattle.cts_memo.proofs.Missing.{known_missing}
use Rattle.cts_memo.proofs.laws.nothing_is_missing.Goals as goal

pub returns : goal.returns
returns c = known_missing
