use Rattle.cts_plain.proofs.Exists.{synthesis_exists}
use Rattle.cts_plain.proofs.laws.synthesis_exists.Goals as goal

pub returns : goal.returns
returns c = synthesis_exists
