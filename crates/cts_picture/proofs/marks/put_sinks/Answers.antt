use Rattle.cts_io.proofs.Chains.{◌▸◌}
use Rattle.cts_picture.specs.Sheet.{sinks_text}
use Rattle.cts_picture.proofs.marks.put_sinks.Goals as goal

pub returns : goal.returns
unfolding sinks_text
returns g c =
    c.put_coordinate.ensures ▸ c.put.ensures ▸ c.put_dots.ensures ▸ c.put-2.ensures
