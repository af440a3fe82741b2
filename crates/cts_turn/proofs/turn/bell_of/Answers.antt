use Rattle.std.proofs.Common.{arith}
use Rattle.cts_turn.proofs.turn.bell_of.Goals as goal

pub returns : goal.returns
returns c = omega arith
