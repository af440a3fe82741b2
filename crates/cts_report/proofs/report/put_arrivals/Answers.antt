use Rattle.cts_io.proofs.Chains.{◌▸◌, puts_nothing}
use Rattle.cts_report.specs.Lines.{arrival_lines}
use Rattle.cts_report.proofs.report.put_arrivals.Goals as goal

pub returns-in-One : goal.returns-in-One
unfolding arrival_lines
returns-in-One g c = rw c.in-One.is (puts_nothing _ _)

pub put_delay_line-requires : goal.put_delay_line-requires
put_delay_line-requires g c = c.requires.greatest c.in-Two.is

pub put_delay_line-requires-in-Two : goal.put_delay_line-requires-in-Two
put_delay_line-requires-in-Two g c = c.requires.least c.in-Two.is

pub returns-in-Two : goal.returns-in-Two
unfolding arrival_lines
returns-in-Two g c = rw c.in-Two.is (c.put_delay_line.ensures ▸ (c.put_delay_line-in-Two.ensures ▸ puts_nothing _ _))
