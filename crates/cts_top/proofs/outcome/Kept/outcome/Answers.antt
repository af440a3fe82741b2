use Rattle.std.proofs.Common.{refl}
use Rattle.cts_top.proofs.outcome.Kept.outcome.Goals as goal

pub returns-clause-memo : goal.returns-clause-memo
returns-clause-memo c = refl
