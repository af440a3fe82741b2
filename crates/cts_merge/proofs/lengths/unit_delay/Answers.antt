-- What one unit more adds is the step of the delay.
use Rattle.std.proofs.Common.{◌≡◌, ◌*◌, arith}
use Rattle.cts_merge.proofs.SideDelays.{step_of, delay_step}
use Rattle.cts_merge.proofs.lengths.unit_delay.Goals as goal

pub returns : goal.returns
returns c =
    let step : c.from.result * c.from-2.result ≡ step_of c.args.wire c.args.side.now c.args.length = cc in
    omega (arith, step, delay_step c.args.wire c.args.side.now c.args.length)
