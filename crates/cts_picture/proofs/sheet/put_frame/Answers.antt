use Rattle.std.proofs.Common.{sym}
use Rattle.cts_io.proofs.Chains.{◌▸◌}
use Rattle.cts_picture.specs.Sheet.{frame_text}
use Rattle.cts_picture.proofs.sheet.put_frame.Goals as goal

pub returns : goal.returns
unfolding frame_text
returns g c =
    rw (
      sym c.height_on_page.ensures.same,
      sym c.width.ensures,
      sym c.height.ensures,
      sym c.margin-margin.ensures,
    )
    (c.put_whole.ensures ▸ c.put_coordinate.ensures ▸ c.put_coordinate-2.ensures ▸ c.put.ensures ▸ c.put_hatch.ensures
    ▸ c.put_coordinate-3.ensures ▸ c.put_coordinate-4.ensures ▸ c.put_coordinate-5.ensures ▸ c.put_coordinate-6.ensures
    ▸ c.put_coordinate-7.ensures ▸ c.put-2.ensures)
