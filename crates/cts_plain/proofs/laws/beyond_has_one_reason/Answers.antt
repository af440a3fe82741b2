use Rattle.cts_plain.proofs.Exists.{one_reason}
use Rattle.cts_plain.proofs.laws.beyond_has_one_reason.Goals as goal

pub returns : goal.returns
returns c = one_reason
