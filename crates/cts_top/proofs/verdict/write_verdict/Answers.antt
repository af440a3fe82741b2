use Rattle.cts_io.proofs.Chains.{written}
use Rattle.cts_top.proofs.verdict.write_verdict.Goals as goal

pub returns : goal.returns
returns g c = written c.new-out.ensures c.put_verdict.ensures c.finish.ensures
