use Rattle.cts_io.proofs.Chains.{◌▸◌}
use Rattle.cts_picture.specs.Sheet.{block_text}
use Rattle.cts_picture.proofs.marks.put_block.Goals as goal

pub returns : goal.returns
unfolding block_text
returns g c = c.put_outline.ensures ▸ c.put_fill.ensures
