use Rattle.cts_elmore.proofs.InDie.{sound_in_die}
use Rattle.cts_elmore.proofs.laws.sound_trees_stand_in_die.Goals as goal

pub returns : goal.returns
returns c = sound_in_die
