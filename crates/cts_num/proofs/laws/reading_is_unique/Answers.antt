use Rattle.cts_num.proofs.Readings.{reading_is_unique}
use Rattle.cts_num.proofs.laws.reading_is_unique.Goals as goal

pub returns : goal.returns
returns c = reading_is_unique
