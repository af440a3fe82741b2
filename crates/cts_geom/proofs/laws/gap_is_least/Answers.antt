use Rattle.cts_geom.proofs.RegionLemmas.{gap_least}
use Rattle.cts_geom.proofs.laws.gap_is_least.Goals as goal

pub returns : goal.returns
returns c = gap_least
