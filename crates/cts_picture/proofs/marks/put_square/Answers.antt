use Rattle.cts_io.proofs.Chains.{◌▸◌}
use Rattle.cts_picture.specs.Sheet.{square_text}
use Rattle.cts_picture.proofs.marks.put_square.Goals as goal

pub returns : goal.returns
unfolding square_text
returns g c = c.put.ensures ▸ c.put_point.ensures ▸ c.put_coordinate.ensures ▸ c.put_coordinate-2.ensures
