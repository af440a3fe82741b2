use Rattle.cts_report.specs.Lines.{labelled, length_in_um}
use Rattle.cts_picture.proofs.words.put_total.Goals as goal

pub returns : goal.returns
unfolding length_in_um labelled
returns g c = c.put_labelled.ensures
