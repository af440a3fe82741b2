use Rattle.cts_read.proofs.Agreements.{refusal_by_front}
use Rattle.cts_read.proofs.laws.refusal_goes_by_front.Goals as goal

pub returns : goal.returns
returns c = refusal_by_front
