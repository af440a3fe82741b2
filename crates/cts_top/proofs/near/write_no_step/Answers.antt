use Rattle.cts_io.proofs.Chains.{◌▸◌, written}
use Rattle.cts_top.specs.Near.{no_step_text}
use Rattle.cts_top.proofs.near.write_no_step.Goals as goal

pub returns : goal.returns
unfolding no_step_text
returns g c = written c.new-out.ensures (c.put_numbered.ensures ▸ c.put.ensures) c.finish.ensures
