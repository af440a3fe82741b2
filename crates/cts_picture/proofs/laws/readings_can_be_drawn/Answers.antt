use Rattle.cts_picture.proofs.Readings.{readings_can_be_drawn}
use Rattle.cts_picture.proofs.laws.readings_can_be_drawn.Goals as goal

pub returns : goal.returns
returns c = readings_can_be_drawn
