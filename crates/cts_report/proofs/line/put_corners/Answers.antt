use Rattle.std.proofs.lemmas.List.{length-map}
use Rattle.cts_io.proofs.Chains.{◌▸◌}
use Rattle.cts_report.specs.Lines.{corner_words}
use Rattle.cts_report.proofs.line.put_corners.Goals as goal

pub returns : goal.returns
unfolding corner_words
returns g c = rw length-map (c.put_whole.ensures ▸ c.put_points.ensures)
