use Rattle.cts_io.proofs.Chains.{◌▸◌}
use Rattle.cts_report.specs.Lines.{count_line}
use Rattle.cts_report.proofs.report.put_count.Goals as goal

pub returns : goal.returns
unfolding count_line
returns g c = c.put_whole.ensures ▸ c.put.ensures
