use Rattle.cts_io.proofs.Chains.{◌▸◌}
use Rattle.cts_report.specs.Lines.{point_words}
use Rattle.cts_picture.proofs.wire.put_dot.Goals as goal

pub returns : goal.returns
unfolding point_words
returns g c = c.put_coordinate.ensures ▸ c.put_coordinate-2.ensures
