use Rattle.std.proofs.Common.{refl}
use Rattle.cts_report.specs.Lines.{title_line}
use Rattle.cts_report_reader.proofs.form.title.Goals as goal

pub returns-in-One : goal.returns-in-One
unfolding title_line
returns-in-One c = rw c.in-One.is refl

pub returns-in-Two : goal.returns-in-Two
unfolding title_line
returns-in-Two c = rw c.in-Two.is refl
