-- The tree that a report tells: what it prints of each node, but for the figures.
use Rattle.std.specs.Prelude.{◌==◌, ℕ, ◌+◌, ◌/◌, pos, ◌-ℤ◌, List, map}
use Rattle.std.specs.List.{position_or_len}
use Rattle.cts_geom.specs.declared.points.Half.{Half}
use Rattle.cts_geom.specs.declared.points.Spot.{Spot}
use Rattle.cts_units.specs.declared.params.Sink.{Sink}
use Rattle.cts_tree.specs.declared.nodes.NodeKind.{NodeKind}
use Rattle.cts_tree.specs.declared.nodes.NodeKind.TheVariants.{Leaf, Pair}
use Rattle.cts_tree.specs.declared.nodes.TreeNode.{TreeNode}
use Rattle.cts_report.specs.Printed.{PrintedPoint, PrintedKind, sink_leaf, pair_node, PrintedNode}

-- a point in half nm
abbrev pub told_point : PrintedPoint → Half
told_point p = record { x = pos (p.x / 5); y = pos (p.y / 5) }

-- a node's place: twice its u is x + y, both in half nm, and its v is the rest of x
abbrev pub told_place : PrintedPoint → Spot
told_place p =
    let u : ℕ = (p.x / 5 + p.y / 5) / 2 in record { u = pos u; v = pos (p.x / 5) -ℤ pos u }

-- the place in the list of the sink with this id; where no sink has it, the length of the list
abbrev pub place_of_id : List Sink → ℕ → ℕ
place_of_id sinks id = position_or_len (λ sink. sink.id == id) sinks

abbrev pub told_kind : List Sink → PrintedKind → NodeKind
told_kind sinks (sink_leaf id) = Leaf id (place_of_id sinks id)
told_kind sinks (pair_node left right buffer residue) = Pair left right buffer

-- A report does not print how long a route is, which nothing that is asked of a tree looks at.
abbrev pub told_node : List Sink → PrintedNode → TreeNode
told_node sinks p = record {
  kind = told_kind sinks p.kind;
  place = told_place p.place;
  wire = p.wire;
  route = record { corners = map told_point p.corners; length = 0 };
}

-- the nodes of the tree, by number
abbrev pub told_nodes : List Sink → List PrintedNode → List TreeNode
told_nodes sinks printed = map (told_node sinks) printed
