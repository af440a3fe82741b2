use Rattle.cts_io.proofs.Chains.{◌▸◌, puts_nothing}
use Rattle.cts_script.specs.Text.{line_of}
use Rattle.cts_after.specs.Outcomes.{no_line}
use Rattle.cts_after.proofs.outcome.put_no.Goals as goal

pub returns : goal.returns
unfolding no_line line_of
returns g c = c.put.ensures ▸ (c.put_whole.ensures ▸ (c.put_cause.ensures ▸ puts_nothing _ _)) ▸ c.put-2.ensures
