use Rattle.cts_check.proofs.Verdicts.{verdict_is_one_lem}
use Rattle.cts_check.proofs.laws.verdict_is_one.Goals as goal

pub returns : goal.returns
returns c = verdict_is_one_lem
