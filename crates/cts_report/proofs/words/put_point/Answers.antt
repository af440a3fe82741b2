use Rattle.cts_io.proofs.Chains.{◌▸◌}
use Rattle.cts_report.specs.Lines.{point_words}
use Rattle.cts_report.proofs.words.put_point.Goals as goal

pub returns : goal.returns
unfolding point_words
returns g c = c.put_x.ensures ▸ c.put_y.ensures
