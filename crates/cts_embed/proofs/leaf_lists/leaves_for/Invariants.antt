use Rattle.std.proofs.Common.{◌≡◌, take}
use Rattle.cts_embed.specs.Stretches.{AreIds}
use Rattle.cts_embed.specs.LeafLists.{shape_pins}
use Rattle.cts_embed.proofs.leaf_lists.leaves_for.Given as goal

abbrev pub invariant-loop-node : goal.invariant-loop-node
invariant-loop-node l =
    AreIds l.instance.sinks (take l.node-index l.nodes) l.ids.items
    × (l.pins.items ≡ shape_pins l.instance (take l.node-index l.nodes))
