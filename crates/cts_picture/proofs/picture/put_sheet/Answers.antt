use Rattle.cts_io.proofs.Chains.{◌▸◌}
use Rattle.cts_picture.specs.Picture.{sheet_text}
use Rattle.cts_picture.proofs.picture.put_sheet.Goals as goal

pub returns : goal.returns
unfolding sheet_text
returns g c =
    c.put_page.ensures ▸ c.put_frame.ensures ▸ c.put_die.ensures ▸ c.put_blocks.ensures
