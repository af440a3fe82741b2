use Rattle.std.proofs.Common.{sym}
use Rattle.cts_io.proofs.Chains.{◌▸◌}
use Rattle.cts_picture.specs.Sheet.{page_text}
use Rattle.cts_picture.proofs.sheet.put_page.Goals as goal

pub returns : goal.returns
unfolding page_text
returns g c =
    rw (sym c.height_on_page-height.ensures.same)
    (c.put_whole.ensures ▸ c.put.ensures ▸ c.put_style.ensures ▸ c.put_whole-2.ensures ▸ c.put-2.ensures)
