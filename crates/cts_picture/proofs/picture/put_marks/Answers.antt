use Rattle.cts_io.proofs.Chains.{◌▸◌}
use Rattle.cts_picture.specs.Picture.{marks_text}
use Rattle.cts_picture.proofs.picture.put_marks.Goals as goal

pub returns : goal.returns
unfolding marks_text
returns g c =
    c.put_buffers.ensures ▸ c.put_sinks.ensures ▸ c.put_source.ensures ▸ c.put_bar.ensures
