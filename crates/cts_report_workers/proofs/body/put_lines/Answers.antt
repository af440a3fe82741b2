use Rattle.std.proofs.Common.{sym}
use Rattle.cts_report_workers.proofs.body.put_lines.Goals as goal

pub returns : goal.returns
returns g c = rw (sym c.stretch_of-nodes.ensures, sym c.stretch_of-figures.ensures) c.put_stretch.ensures
