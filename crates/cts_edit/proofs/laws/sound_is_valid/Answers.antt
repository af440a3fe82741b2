use Rattle.cts_edit.proofs.Validities.{sound_valid}
use Rattle.cts_edit.proofs.laws.sound_is_valid.Goals as goal

pub returns : goal.returns
returns c = sound_valid
