use Rattle.cts_report.specs.Lines.{labelled, time}
use Rattle.cts_picture.proofs.words.put_time.Goals as goal

pub returns : goal.returns
unfolding time labelled
returns g c = c.put_labelled.ensures
