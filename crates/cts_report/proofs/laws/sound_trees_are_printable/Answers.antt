use Rattle.cts_report.proofs.Printable.{sound_printable}
use Rattle.cts_report.proofs.laws.sound_trees_are_printable.Goals as goal

pub returns : goal.returns
returns c = sound_printable
