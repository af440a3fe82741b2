use Rattle.std.proofs.Common.{◌≡◌}
use Rattle.cts_route.specs.Search.{AreLabels}
use Rattle.cts_route.proofs.table.Table.spread.Given as goal

abbrev pub invariant-points : goal.invariant-points
invariant-points l = AreLabels l.graph l.self.goal l.self.labels.items × (l.self.goal ≡ l.initial.self.goal)

abbrev pub invariant-loop-direction : goal.invariant-loop-direction
invariant-loop-direction l = AreLabels l.graph l.self.goal l.self.labels.items × (l.self.goal ≡ l.initial.self.goal)
