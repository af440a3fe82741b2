use Rattle.cts_report.proofs.Printable.{printable}
use Rattle.cts_report.proofs.laws.figures_in_range_are_printable.Goals as goal

pub returns : goal.returns
returns c = printable
