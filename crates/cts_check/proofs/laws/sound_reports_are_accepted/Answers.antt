use Rattle.cts_check.proofs.Accepted.{accepted}
use Rattle.cts_check.proofs.laws.sound_reports_are_accepted.Goals as goal

pub returns : goal.returns
returns c = accepted
