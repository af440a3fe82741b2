use Rattle.cts_geom.proofs.MeetLemmas.{meet-segment}
use Rattle.cts_geom.proofs.laws.meet_is_segment.Goals as goal

pub returns : goal.returns
returns c = meet-segment
