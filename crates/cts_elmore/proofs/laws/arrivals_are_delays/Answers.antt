use Rattle.cts_elmore.proofs.NoOffsets.{arrivals_are_delays_lem}
use Rattle.cts_elmore.proofs.laws.arrivals_are_delays.Goals as goal

pub returns : goal.returns
returns c = arrivals_are_delays_lem
