use Rattle.cts_io.proofs.Chains.{◌▸◌}
use Rattle.cts_report.proofs.report.put_length_line.Goals as goal

pub returns : goal.returns
returns g c = c.put_length.ensures ▸ c.put.ensures
