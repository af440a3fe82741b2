use Rattle.cts_io.proofs.Chains.{◌▸◌, puts_nothing}
use Rattle.cts_script.specs.Text.{line_of}
use Rattle.cts_history.proofs.history.put_length_of.Goals as goal

pub returns : goal.returns
unfolding line_of
returns g c = (c.put_labelled.ensures ▸ puts_nothing _ _) ▸ c.put.ensures
