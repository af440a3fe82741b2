use Rattle.cts_io.proofs.Chains.{◌▸◌}
use Rattle.cts_report.proofs.report.put_head.Goals as goal

pub returns : goal.returns
returns g c = c.put_title.ensures ▸ c.put_count.ensures
