use Rattle.cts_merge.proofs.Regions.{merged_ends}
use Rattle.cts_merge.proofs.laws.merged_region_has_ends.Goals as goal

pub returns : goal.returns
returns c = merged_ends
