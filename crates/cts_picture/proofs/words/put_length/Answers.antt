use Rattle.cts_report.specs.Lines.{labelled, length_in_um}
use Rattle.cts_picture.proofs.words.put_length.Goals as goal

pub returns : goal.returns
unfolding length_in_um labelled
returns g c = rw (← c.from.ensures) c.put_labelled.ensures
