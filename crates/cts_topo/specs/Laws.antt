-- What holds of the shape over every list of sinks.
use Rattle.std.specs.Prelude.{◌≡◌, ℕ, ◌+◌, ◌*◌, ◌^◌, ◌≤◌, List, [], ◌∷◌, length, Some}
use Rattle.cts_units.specs.declared.params.Sink.{Sink}
use Rattle.cts_postorder.specs.BinaryTree.{BinaryTree, tip, fork, depth}
use Rattle.cts_postorder.specs.PostOrder.{root_of}
use Rattle.cts_topo.specs.declared.shape.ShapeNode.{ShapeNode}
use Rattle.cts_topo.specs.declared.shape.ShapeNode.TheVariants.{Leaf}
use Rattle.cts_topo.specs.declared.pin.Pin.{Pin}
use Rattle.cts_topo.specs.Shape.{children, leaf_sinks, IsShapeOver}
use Rattle.cts_topo.specs.Sinks.{AreSinks}
use Rattle.cts_topo.specs.Topology.{left_size, left_part, right_part, pins_from, topology_of, shape_of}

-- The rule of division, as a property of a finished tree: a leaf stands over one pin, and a pair over two or more, of
-- which half, rounded up, are in its left part.
unfoldable pub IsDivided : List Pin → BinaryTree ShapeNode → Type 0
IsDivided pins (tip n) = (p : Pin) × ((pins ≡ p ∷ []) × (n ≡ Leaf p.sink))
IsDivided pins (fork l r n) =
    (2 ≤ length pins) × (length (left_part pins) ≡ left_size (length pins))
    × IsDivided (left_part pins) l × IsDivided (right_part pins) r

-- the whole of a shape is the tree over its sinks, and that tree is divided by the rule
abbrev pub ShapesAreDivided : Type 0
ShapesAreDivided =
    (sinks : List Sink) → AreSinks sinks
    → (root_of children (shape_of sinks) ≡ Some (topology_of sinks)) × IsDivided (pins_from 0 sinks) (topology_of sinks)

-- a shape names each sink once, and has 2n - 1 nodes over n sinks
abbrev pub ShapesNameEachSink : Type 0
ShapesNameEachSink =
    (sinks : List Sink) → AreSinks sinks
    → IsShapeOver (length sinks) (shape_of sinks) × (length (shape_of sinks) + 1 ≡ 2 * length sinks)

-- every shape over n sinks, whatever its form, has n leaves and 2n - 1 nodes
abbrev pub ShapesHaveCounts : Type 0
ShapesHaveCounts =
    (count : ℕ) (nodes : List ShapeNode) → IsShapeOver count nodes
    → (length (leaf_sinks nodes) ≡ count) × (length nodes + 1 ≡ 2 * count)

-- over at most 2^d sinks at most d pairs stand one above another, and so never more than 16
abbrev pub ShapesAreShallow : Type 0
ShapesAreShallow =
    (sinks : List Sink) → AreSinks sinks
    → ((d : ℕ) → length sinks ≤ 2 ^ d → depth (topology_of sinks) ≤ d) × (depth (topology_of sinks) ≤ 16)
