use Rattle.cts_num.proofs.Readings.{value_is_unique}
use Rattle.cts_num.proofs.laws.value_is_unique.Goals as goal

pub returns : goal.returns
returns c = value_is_unique
