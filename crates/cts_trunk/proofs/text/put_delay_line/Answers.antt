use Rattle.cts_io.proofs.Chains.{◌▸◌}
use Rattle.cts_trunk.proofs.text.put_delay_line.Goals as goal

pub returns : goal.returns
returns g c = c.put_delay.ensures ▸ c.put.ensures
