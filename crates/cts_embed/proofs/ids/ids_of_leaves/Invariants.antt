use Rattle.std.proofs.Common.{◌≡◌, take}
use Rattle.cts_embed.specs.Leaves.{ids_of_leaves}
use Rattle.cts_embed.proofs.ids.ids_of_leaves.Given as goal

abbrev pub invariant-loop-node : goal.invariant-loop-node
invariant-loop-node l = l.ids.items ≡ ids_of_leaves l.sinks (take l.node-index l.nodes)
