use Rattle.cts_merge.proofs.ResidueBounds.{balance_residue}
use Rattle.cts_merge.proofs.laws.balance_residue_is_bounded.Goals as goal

pub returns : goal.returns
returns c = balance_residue
