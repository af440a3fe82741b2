use Rattle.cts_up.proofs.Regions.{regions_segment}
use Rattle.cts_up.proofs.laws.regions_are_segments.Goals as goal

pub returns : goal.returns
returns c = regions_segment
