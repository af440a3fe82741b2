use Rattle.cts_report.specs.Lines.{labelled, whole}
use Rattle.cts_picture.proofs.words.put_whole.Goals as goal

pub returns : goal.returns
unfolding whole labelled
returns g c = rw (← c.from.ensures) c.put_labelled.ensures
