use Rattle.cts_up.proofs.LeafOrder.{AreNamed}
use Rattle.cts_up.proofs.ascent.sinks_of_leaves.Given as goal

abbrev pub invariant-loop-node : goal.invariant-loop-node
invariant-loop-node l = AreNamed l.sinks l.nodes l.node-index l.named.items
