use Rattle.std.proofs.Common.{◌≡◌}
use Rattle.cts_route.specs.Search.{AreLabels, total}
use Rattle.cts_route.proofs.table.Table.settle.Given as goal

abbrev pub invariant-sweeps : goal.invariant-sweeps
invariant-sweeps l = AreLabels l.graph l.self.goal l.self.labels.items × (l.self.goal ≡ l.initial.self.goal)

abbrev pub decreases-sweeps : goal.decreases-sweeps
decreases-sweeps l = total l.self.labels.items
