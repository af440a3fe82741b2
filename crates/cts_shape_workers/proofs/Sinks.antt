-- The pins of a list of sinks, sorted apart along each axis.
use Rattle.std.proofs.Common.{◌≡◌, true, false, List, [], length, IsPermutation, IsSortedBy, sym, ap, subst, ◌∙◌, arith}
use Rattle.cts_units.specs.declared.params.Sink.{Sink}
use Rattle.cts_topo.specs.declared.shape.ShapeNode.{ShapeNode}
use Rattle.cts_topo.specs.declared.pin.Pin.{Pin}
use Rattle.cts_topo.specs.Sinks.{AreSinks}
use Rattle.cts_topo.specs.Topology.{is_before, pins_from}
use Rattle.cts_topo.proofs.Shuffles.{Shuffled, chain, turned_round, shuffled_of, length-Shuffled}
use Rattle.cts_topo.proofs.PinsFrom.{length-pins_from}
use Rattle.cts_topo.proofs.Whole.{divisible_pins}
use Rattle.cts_shape_workers.specs.Growing.{CanGrow}

-- what a sort gives, where a slice shows it
pub sorted_pins : (sinks : List Sink) (pins sorted shown : List Pin) → pins ≡ pins_from 0 sinks → IsPermutation pins sorted
    → shown ≡ sorted → Shuffled (pins_from 0 sinks) shown
sorted_pins sinks pins sorted shown are order is =
    subst (Shuffled (pins_from 0 sinks)) (sym is) (subst (λ ps. Shuffled ps sorted) are (shuffled_of pins sorted order))

-- so a list without nodes can grow by the tree over all pins
pub can_begin : (sinks : List Sink) (by_x by_y spare : List Pin) (nodes : List ShapeNode) → AreSinks sinks
    → Shuffled (pins_from 0 sinks) by_x → IsSortedBy (is_before true) by_x
    → Shuffled (pins_from 0 sinks) by_y → IsSortedBy (is_before false) by_y
    → spare ≡ pins_from 0 sinks → nodes ≡ [] → CanGrow 0 true by_x by_y spare nodes
can_begin sinks by_x by_y spare nodes are x sorted_x y sorted_y spare_is empty = record {
  pins = divisible_pins sinks by_x by_y are x sorted_x (chain (turned_round x) y) sorted_y;
  long = ap length spare_is ∙ length-Shuffled x;
  room = omega (arith, ap length empty, length-Shuffled x, length-pins_from 0 sinks, are.few);
}
