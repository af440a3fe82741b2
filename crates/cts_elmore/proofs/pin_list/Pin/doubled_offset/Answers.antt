use Rattle.std.proofs.Common.{arith}
use Rattle.cts_elmore.proofs.pin_list.Pin.doubled_offset.Goals as goal

pub returns-clause-value : goal.returns-clause-value
returns-clause-value c = omega arith
