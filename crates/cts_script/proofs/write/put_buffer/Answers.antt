use Rattle.cts_io.proofs.Chains.{◌▸◌, puts_nothing}
use Rattle.cts_script.specs.Text.{buffer_line, line_of}
use Rattle.cts_script.proofs.write.put_buffer.Goals as goal

pub returns : goal.returns
unfolding buffer_line line_of
returns g c = c.put.ensures ▸ (c.put_number.ensures ▸ (c.put_number-2.ensures ▸ (c.put_number-3.ensures ▸ puts_nothing _ _))) ▸ c.put-2.ensures
