use Rattle.std.proofs.Common.{◌≡◌, map, take}
use Rattle.cts_topo.proofs.RoughOrder.{pin_by}
use Rattle.cts_topo.proofs.divide.in_rough_order.Given as goal

abbrev pub invariant-loop-key : goal.invariant-loop-key
invariant-loop-key l = l.ordered.items ≡ map (pin_by l.pins) (take l.key-index l.key-items)
