use Rattle.cts_route.proofs.Sweeps.{IsSwept}
use Rattle.cts_route.proofs.table.Table.sweep.Given as goal

abbrev pub invariant-loop-from : goal.invariant-loop-from
invariant-loop-from l = IsSwept l.graph l.start l.self.goal l.initial.self.goal l.from l.initial.self.labels.items l.self.labels.items l.changed
