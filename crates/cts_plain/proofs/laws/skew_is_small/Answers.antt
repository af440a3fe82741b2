use Rattle.cts_plain.proofs.Residues.{skew_small}
use Rattle.cts_plain.proofs.laws.skew_is_small.Goals as goal

pub returns : goal.returns
returns c = skew_small
