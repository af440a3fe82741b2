use Rattle.cts_edit.proofs.Acceptances.{accepted_made}
use Rattle.cts_edit.proofs.laws.accepted_may_be_made.Goals as goal

pub returns : goal.returns
returns c = accepted_made
