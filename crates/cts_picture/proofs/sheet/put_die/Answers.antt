use Rattle.cts_io.proofs.Chains.{◌▸◌}
use Rattle.cts_picture.specs.Sheet.{die_text}
use Rattle.cts_picture.proofs.sheet.put_die.Goals as goal

pub returns : goal.returns
unfolding die_text
returns g c = c.put_rectangle.ensures ▸ c.put_coordinate.ensures ▸ c.put.ensures
