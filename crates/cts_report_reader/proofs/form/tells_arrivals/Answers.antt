use Rattle.std.proofs.Common.{refl}
use Rattle.cts_report_reader.proofs.form.tells_arrivals.Goals as goal

pub returns-in-One : goal.returns-in-One
returns-in-One c = rw c.in-One.is refl

pub returns-in-Two : goal.returns-in-Two
returns-in-Two c = rw c.in-Two.is refl
