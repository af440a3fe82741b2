use Rattle.cts_num.proofs.Computed.{reading_of_is}
use Rattle.cts_num.proofs.laws.reading_is_computed.Goals as goal

pub returns : goal.returns
returns c = reading_of_is
