use Rattle.cts_io.proofs.Chains.{◌▸◌}
use Rattle.cts_trunk.specs.Lines.{count_line}
use Rattle.cts_trunk.proofs.text.put_count.Goals as goal

pub returns : goal.returns
unfolding count_line
returns g c = c.put_whole.ensures ▸ c.put.ensures
