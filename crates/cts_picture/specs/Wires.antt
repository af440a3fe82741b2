-- The wires of a picture: one for the root, from the source, and two below each pair, from its place.
use Rattle.std.specs.Prelude.{ℕ, ◌+◌, ◌-◌, ◌*◌, ◌/◌, min, nat_lt, if◌then◌else◌, List, [], ◌∷◌, ◌++◌, length, slice_get, codes}
use Rattle.std.specs.List.{flat_map}
use Rattle.std.specs.Option.{option_map_or}
use Rattle.cts_report.specs.Printed.{PrintedPoint, PrintedKind, sink_leaf, pair_node, PrintedNode, PrintedTotals}
use Rattle.cts_report.specs.Lines.{whole, length_in_um, coordinate, capacitance, time, arrival_words, point_words}
use Rattle.cts_picture.specs.declared.wire.Scale.{Scale}

-- a wire, by the number of the node at its lower end, its upper end, and that node
pub record DrawnWire : Type 0 where
  pub number : ℕ
  pub upper : PrintedPoint
  pub node : PrintedNode

-- the wire from a point to the node of this number, if there is one
abbrev pub wire_to : List PrintedNode → PrintedPoint → ℕ → List DrawnWire
wire_to nodes upper number =
    option_map_or (λ (node : PrintedNode). record { number = number; upper = upper; node = node } ∷ []) (slice_get nodes number) []

-- the two wires from a pair to its children
abbrev pub wires_from : List PrintedNode → PrintedPoint → PrintedKind → List DrawnWire
wires_from nodes place (sink_leaf id) = []
wires_from nodes place (pair_node left right buffer residue) = wire_to nodes place left ++ wire_to nodes place right

abbrev pub wires_below : List PrintedNode → PrintedNode → List DrawnWire
wires_below nodes node = wires_from nodes node.place node.kind

-- all wires: that to the root, which is the last node, and those below the pairs
unfoldable pub wires_of : PrintedPoint → List PrintedNode → List DrawnWire
wires_of source nodes = wire_to nodes source (length nodes - 1) ++ flat_map (wires_below nodes) nodes

-- the points of the wire to a node: its upper end, its corners, its lower end
abbrev pub course : PrintedPoint → PrintedNode → List PrintedPoint
course upper node = upper ∷ (node.corners ++ node.place ∷ [])

abbrev pub wire_points : DrawnWire → List PrintedPoint
wire_points wire = course wire.upper wire.node

abbrev pub gap : ℕ → ℕ → ℕ
gap a b = (a - b) + (b - a)

-- the length of a way from a point over others, in 10^-4 µm
unfoldable pub way_length : PrintedPoint → List PrintedPoint → ℕ
way_length p [] = 0
way_length p (q ∷ points) = (gap p.x q.x + gap p.y q.y) + way_length q points

-- the length of the route of the wire to a node
abbrev pub route_length : PrintedPoint → PrintedNode → ℕ
route_length upper node = way_length upper (node.corners ++ node.place ∷ [])

-- the delay of the root, which is the last node
abbrev pub root_delay : List PrintedNode → ℕ
root_delay nodes = option_map_or (λ (node : PrintedNode). node.delay) (slice_get nodes (length nodes - 1)) 0

-- The classes of delay: eight of them, each as wide as the others, from the delay of the root on.
abbrev pub scale_of : List PrintedNode → PrintedTotals → Scale
scale_of nodes totals = record {
  start = root_delay nodes;
  step = (totals.greatest - root_delay nodes) / 8 + 1;
}

-- the class of a delay: what is before the first class belongs to it, what is after the last to that
abbrev pub delay_class : Scale → ℕ → ℕ
delay_class scale delay = min 7 ((delay - scale.start) / scale.step)

-- a wire that is longer than its route is dashed
unfoldable pub dash_words : ℕ → ℕ → List ℕ
dash_words wire route = if nat_lt route (10 * wire) then codes " l" else []

-- what is shown under the pointer, in the digits of the report, which tells the arrivals of leaves or tells none
unfoldable pub title_text : ℕ → ℕ → PrintedNode → List ℕ
title_text number route node =
    whole (codes "'><title>node ") number ++ length_in_um (codes " wire ") node.wire ++ coordinate (codes " route ") route
    ++ capacitance (codes " load ") node.load ++ time (codes " delay ") node.delay ++ arrival_words node.arrival
    ++ time (codes " slew ") node.slew ++ codes "</title></path>\n"

-- a wire along its corners
unfoldable pub wire_text : Scale → DrawnWire → List ℕ
wire_text scale wire =
    whole (codes "<path class='d") (delay_class scale wire.node.delay) ++ dash_words wire.node.wire (route_length wire.upper wire.node)
    ++ codes "' d='M" ++ flat_map point_words (wire_points wire)
    ++ title_text wire.number (route_length wire.upper wire.node) wire.node

-- all wires
unfoldable pub wires_text : Scale → PrintedPoint → List PrintedNode → List ℕ
wires_text scale source nodes = flat_map (wire_text scale) (wires_of source nodes)
