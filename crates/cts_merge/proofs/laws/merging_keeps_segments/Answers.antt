use Rattle.cts_merge.proofs.Tight.{merging_segment}
use Rattle.cts_merge.proofs.laws.merging_keeps_segments.Goals as goal

pub returns : goal.returns
returns c = merging_segment
