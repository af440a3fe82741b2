use Rattle.cts_io.proofs.Chains.{◌▸◌}
use Rattle.cts_picture.specs.Sheet.{buffers_text}
use Rattle.cts_picture.proofs.marks.put_buffers.Goals as goal

pub returns : goal.returns
unfolding buffers_text
returns g c =
    c.put_coordinate.ensures ▸ c.put.ensures ▸ c.put_squares.ensures ▸ c.put-2.ensures
