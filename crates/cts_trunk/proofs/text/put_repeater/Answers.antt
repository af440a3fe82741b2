use Rattle.cts_io.proofs.Chains.{◌▸◌}
use Rattle.cts_trunk.specs.Lines.{repeater_line}
use Rattle.cts_trunk.proofs.text.put_repeater.Goals as goal

pub returns : goal.returns
unfolding repeater_line
returns g c =
    c.put_whole.ensures ▸ c.put.ensures ▸ c.put_place.ensures ▸ c.put_length.ensures ▸ c.put_capacitance.ensures
    ▸ c.put_delay.ensures ▸ c.put_slew.ensures ▸ c.put-2.ensures
