use Rattle.cts_plain.proofs.Unique.{synthesis_one}
use Rattle.cts_plain.proofs.laws.synthesis_is_one.Goals as goal

pub returns : goal.returns
returns c = synthesis_one
