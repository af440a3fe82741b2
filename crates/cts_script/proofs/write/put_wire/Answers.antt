use Rattle.cts_io.proofs.Chains.{◌▸◌, puts_nothing}
use Rattle.cts_script.specs.Text.{wire_line, line_of}
use Rattle.cts_script.proofs.write.put_wire.Goals as goal

pub returns : goal.returns
unfolding wire_line line_of
returns g c = c.put.ensures ▸ (c.put_number.ensures ▸ (c.put_number-2.ensures ▸ puts_nothing _ _)) ▸ c.put-2.ensures
