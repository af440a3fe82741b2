use Rattle.cts_io.proofs.Given.{puts_then, finished}
use Rattle.cts_rows.proofs.devices.write_lines.Goals as goal

pub returns : goal.returns
returns g c = search (puts_then, finished)
