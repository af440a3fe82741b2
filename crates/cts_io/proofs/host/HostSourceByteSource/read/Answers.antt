use Rattle.std.proofs.Common.{ap, arith}
use Rattle.cts_io.specs.Host.{HostState}
use Rattle.cts_io.proofs.host.HostSourceByteSource.read.Goals as goal

pub returns-in-Ok-clause-ok : goal.returns-in-Ok-clause-ok
returns-in-Ok-clause-ok g c = ap (λ (s : HostState g.row.R.Denot). s.faults) c.self.view_is

pub returns-in-Ok-clause-counted : goal.returns-in-Ok-clause-counted
returns-in-Ok-clause-counted g c = omega (arith, returns-in-Ok-clause-ok g c)
