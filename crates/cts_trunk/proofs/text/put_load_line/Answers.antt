use Rattle.cts_io.proofs.Chains.{◌▸◌}
use Rattle.cts_trunk.proofs.text.put_load_line.Goals as goal

pub returns : goal.returns
returns g c = c.put_capacitance.ensures ▸ c.put.ensures
