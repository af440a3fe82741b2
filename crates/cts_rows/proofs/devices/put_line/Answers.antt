use Rattle.cts_io.proofs.Given.{puts_then}
use Rattle.cts_rows.proofs.devices.put_line.Goals as goal

pub returns : goal.returns
returns g c = search puts_then
