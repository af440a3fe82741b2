use Rattle.cts_geom.proofs.MeetLemmas.{meet-boxed}
use Rattle.cts_geom.proofs.laws.meet_stays_in_box.Goals as goal

pub returns : goal.returns
returns c = meet-boxed
