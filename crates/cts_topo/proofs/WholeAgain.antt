-- The pins of a list of sinks, sorted apart along each axis.
use Rattle.std.proofs.Common.{◌≡◌, ◌+◌, ◌*◌, true, false, List, [], length, map, IsSortedBy, sym, subst, ◌∙◌}
use Rattle.cts_units.specs.declared.params.Sink.{Sink}
use Rattle.cts_postorder.specs.PostOrder.{IsPostOrder}
use Rattle.cts_topo.specs.declared.shape.ShapeNode.{ShapeNode}
use Rattle.cts_topo.specs.declared.pin.Pin.{Pin}
use Rattle.cts_topo.specs.Divisible.{IsDivisible}
use Rattle.cts_topo.specs.Shape.{children, IsShapeOver}
use Rattle.cts_topo.specs.Sinks.{AreSinks}
use Rattle.cts_topo.specs.Topology.{is_before, pins_from, shape_of, AddsTree}
use Rattle.cts_topo.proofs.Shuffles.{Shuffled, chain, turned_round}
use Rattle.cts_topo.proofs.Whole.{divisible_pins, shuffled_is_shape, shape_is_post_order, shape_is_over, length-shape_of}

-- the pins of a list of sinks in another order, where slices show both
pub pins_of_sinks : (sinks : List Sink) (pins given sorted shown : List Pin) → pins ≡ pins_from 0 sinks → given ≡ pins
    → Shuffled given sorted → shown ≡ sorted → Shuffled (pins_from 0 sinks) shown
pins_of_sinks sinks pins given sorted shown are given_is order is =
    subst (Shuffled (pins_from 0 sinks)) (sym is) (subst (λ ps. Shuffled ps sorted) (given_is ∙ are) order)

-- in both orders they can be divided
pub both_orders : (sinks : List Sink) (by_x by_y : List Pin) → AreSinks sinks
    → Shuffled (pins_from 0 sinks) by_x → IsSortedBy (is_before true) by_x
    → Shuffled (pins_from 0 sinks) by_y → IsSortedBy (is_before false) by_y → IsDivisible true by_x by_y
both_orders sinks by_x by_y are x sorted_x y sorted_y =
    divisible_pins sinks by_x by_y are x sorted_x (chain (turned_round x) y) sorted_y

-- what is made of them is the shape
pub record IsWhole (sinks : List Sink) (nodes : List ShapeNode) : Type 0 where
  pub shape : nodes ≡ shape_of sinks
  pub post_order : IsPostOrder (map children nodes)
  pub over : IsShapeOver (length sinks) nodes
  pub count : length nodes + 1 ≡ 2 * length sinks

pub whole_of : (sinks : List Sink) (by_x : List Pin) (before nodes : List ShapeNode) → AreSinks sinks
    → Shuffled (pins_from 0 sinks) by_x → before ≡ [] → AddsTree 0 by_x before nodes → IsWhole sinks nodes
whole_of sinks by_x before nodes are x empty adds =
    let is : nodes ≡ shape_of sinks = shuffled_is_shape sinks by_x before nodes x empty adds in
    record {
      shape = is;
      post_order = subst (λ ns. IsPostOrder (map children ns)) (sym is) (shape_is_post_order sinks are);
      over = subst (IsShapeOver (length sinks)) (sym is) (shape_is_over sinks are);
      count = subst (λ ns. length ns + 1 ≡ 2 * length sinks) (sym is) (length-shape_of sinks are);
    }
