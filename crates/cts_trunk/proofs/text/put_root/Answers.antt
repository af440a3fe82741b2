use Rattle.cts_io.proofs.Chains.{◌▸◌}
use Rattle.cts_trunk.specs.Lines.{root_line}
use Rattle.cts_trunk.proofs.text.put_root.Goals as goal

pub returns : goal.returns
unfolding root_line
returns g c = c.put_delay.ensures ▸ c.put_slew.ensures ▸ c.put.ensures
