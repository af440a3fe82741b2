use Rattle.cts_report.specs.Lines.{title_line}
use Rattle.cts_report.proofs.report.put_title.Goals as goal

pub returns-in-One : goal.returns-in-One
unfolding title_line
returns-in-One g c = rw c.in-One.is c.put.ensures

pub returns-in-Two : goal.returns-in-Two
unfolding title_line
returns-in-Two g c = rw c.in-Two.is c.put-in-Two.ensures
