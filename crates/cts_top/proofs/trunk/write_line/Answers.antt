use Rattle.cts_io.proofs.Chains.{written}
use Rattle.cts_top.proofs.trunk.write_line.Goals as goal

pub returns : goal.returns
returns g c = written c.new-out.ensures c.put.ensures c.finish.ensures
