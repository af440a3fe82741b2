use Rattle.cts_memo.proofs.Capacitances.{cap_misses}
use Rattle.cts_memo.proofs.laws.one_cap_misses_sixteen.Goals as goal

pub returns : goal.returns
returns c = cap_misses
