use Rattle.cts_io.proofs.Chains.{◌▸◌}
use Rattle.cts_picture.specs.Sheet.{source_text}
use Rattle.cts_picture.proofs.marks.put_source.Goals as goal

pub returns : goal.returns
unfolding source_text
returns g c =
    c.put_coordinate.ensures ▸ c.put_coordinate-2.ensures ▸ c.put_coordinate-3.ensures ▸ c.put_coordinate-4.ensures ▸ c.put.ensures
