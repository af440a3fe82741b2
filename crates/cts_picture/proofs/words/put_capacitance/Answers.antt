use Rattle.cts_report.specs.Lines.{labelled, capacitance}
use Rattle.cts_picture.proofs.words.put_capacitance.Goals as goal

pub returns : goal.returns
unfolding capacitance labelled
returns g c = c.put_labelled.ensures
