use Rattle.cts_near.proofs.OneTree.{near_trees_sound}
use Rattle.cts_near.proofs.laws.near_trees_are_sound.Goals as goal

pub returns : goal.returns
returns c = near_trees_sound
