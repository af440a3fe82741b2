use Rattle.cts_io.proofs.Chains.{◌▸◌}
use Rattle.cts_picture.specs.Sheet.{rectangle}
use Rattle.cts_picture.proofs.sheet.put_rectangle.Goals as goal

pub returns : goal.returns
unfolding rectangle
returns g c =
    c.put_coordinate.ensures ▸ c.put_coordinate-2.ensures ▸ c.put_coordinate-3.ensures ▸ c.put_coordinate-4.ensures
