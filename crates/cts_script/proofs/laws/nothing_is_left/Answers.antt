use Rattle.cts_script.proofs.WrittenInstance.{nothing_is_left}
use Rattle.cts_script.proofs.laws.nothing_is_left.Goals as goal

pub returns : goal.returns
returns c = nothing_is_left
