use Rattle.cts_io.proofs.Chains.{◌▸◌, puts_nothing}
use Rattle.cts_script.specs.Text.{line_of}
use Rattle.cts_script.proofs.write.put_count.Goals as goal

pub returns : goal.returns
unfolding line_of
returns g c = c.put.ensures ▸ (c.put_number.ensures ▸ puts_nothing _ _) ▸ c.put-2.ensures
