use Rattle.cts_report.specs.Lines.{labelled, coordinate}
use Rattle.cts_picture.proofs.words.put_coordinate.Goals as goal

pub returns : goal.returns
unfolding coordinate labelled
returns g c = rw (← c.from.ensures) c.put_labelled.ensures
