use Rattle.cts_memo.proofs.Missing.{change_misses}
use Rattle.cts_memo.proofs.laws.one_change_misses_depth.Goals as goal

pub returns : goal.returns
returns c = change_misses
