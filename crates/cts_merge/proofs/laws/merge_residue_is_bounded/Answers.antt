use Rattle.cts_merge.proofs.ResidueBounds.{merge_residue}
use Rattle.cts_merge.proofs.laws.merge_residue_is_bounded.Goals as goal

pub returns : goal.returns
returns c = merge_residue
