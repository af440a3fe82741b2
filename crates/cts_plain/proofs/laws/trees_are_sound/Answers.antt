use Rattle.cts_plain.proofs.Sound.{trees_sound}
use Rattle.cts_plain.proofs.laws.trees_are_sound.Goals as goal

pub returns : goal.returns
returns c = trees_sound
