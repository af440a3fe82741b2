-- What the nodes of a shape name.
use Rattle.std.specs.Prelude.{◌≡◌, ℕ, ◌-◌, ◌<◌, ◌==◌, List, map, filter_map, All, count_by, Option, Some, None}
use Rattle.cts_postorder.specs.PostOrder.{IsPostOrder, NamesFrom}
use Rattle.cts_topo.specs.declared.shape.ShapeNode.{ShapeNode}
use Rattle.cts_topo.specs.declared.shape.ShapeNode.TheVariants.{Leaf, Pair}

-- the numbers of a node's left and right child, and nothing at a leaf
abbrev pub children : ShapeNode → Option (ℕ × ℕ)
children (Leaf sink) = None
children (Pair left right) = Some (left, right)

-- the same, counted from the number `first` on
abbrev pub children_from : ℕ → ShapeNode → Option (ℕ × ℕ)
children_from first (Leaf sink) = None
children_from first (Pair left right) = Some (left - first, right - first)

-- the sink of a leaf, by its place in the list of sinks, and nothing at a pair
abbrev pub leaf_sink : ShapeNode → Option ℕ
leaf_sink (Leaf sink) = Some sink
leaf_sink (Pair left right) = None

-- the sinks of the leaves, from the left
abbrev pub leaf_sinks : List ShapeNode → List ℕ
leaf_sinks nodes = filter_map leaf_sink nodes

-- a shape over so many sinks: its nodes are in post-order, and each sink is named by one leaf
pub record IsShapeOver (count : ℕ) (nodes : List ShapeNode) : Type 0 where
  pub post_order : IsPostOrder (map children nodes)
  pub within : All (λ sink. sink < count) (leaf_sinks nodes)
  pub once : (sink : ℕ) → sink < count → count_by (λ named. named == sink) (leaf_sinks nodes) ≡ 1

-- A stretch of a shape over so many sinks: the nodes of one of its subtrees, of which the first one has the number `first` in
-- the shape.
pub record IsStretchOver (count first : ℕ) (nodes : List ShapeNode) : Type 0 where
  pub post_order : IsPostOrder (map (children_from first) nodes)
  pub numbered : All (NamesFrom children first) nodes
  pub within : All (λ sink. sink < count) (leaf_sinks nodes)
