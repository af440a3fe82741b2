use Rattle.cts_io.proofs.Chains.{◌▸◌}
use Rattle.cts_picture.specs.Wires.{title_text}
use Rattle.cts_picture.proofs.wire.put_title.Goals as goal

pub returns : goal.returns
unfolding title_text
returns g c =
    c.put_whole.ensures ▸ c.put_length.ensures ▸ c.put_coordinate.ensures ▸ c.put_capacitance.ensures
    ▸ c.put_time.ensures ▸ c.put_arrival.ensures ▸ c.put_time-2.ensures ▸ c.put.ensures
