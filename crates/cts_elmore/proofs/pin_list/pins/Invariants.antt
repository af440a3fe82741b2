use Rattle.std.proofs.Common.{◌≡◌, take}
use Rattle.cts_elmore.specs.Loads.{leaf_pins}
use Rattle.cts_elmore.proofs.pin_list.pins.Given as goal

abbrev pub invariant-loop-node : goal.invariant-loop-node
invariant-loop-node l = l.pins.items ≡ leaf_pins l.instance (take l.node-index l.nodes)
