use Rattle.cts_io.proofs.Chains.{written}
use Rattle.cts_after.proofs.outcome.write_no.Goals as goal

pub returns : goal.returns
returns g c = written c.new-out.ensures c.put_no.ensures c.finish.ensures
