use Rattle.cts_merge.proofs.Tight.{merging_in_box}
use Rattle.cts_merge.proofs.laws.merging_stays_in_box.Goals as goal

pub returns : goal.returns
returns c = merging_in_box
