use Rattle.cts_plain.proofs.Residues.{residues_small}
use Rattle.cts_plain.proofs.laws.residues_are_small.Goals as goal

pub returns : goal.returns
returns c = residues_small
