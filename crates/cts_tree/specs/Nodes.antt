-- What the nodes of a tree name.
use Rattle.std.specs.Prelude.{ℕ, ◌-◌, Option, Some, None}
use Rattle.cts_tree.specs.declared.nodes.NodeKind.{NodeKind}
use Rattle.cts_tree.specs.declared.nodes.NodeKind.TheVariants.{Leaf, Pair}
use Rattle.cts_tree.specs.declared.nodes.TreeNode.{TreeNode}

-- the numbers of the left and right child, and nothing at a leaf
abbrev pub children_of : NodeKind → Option (ℕ × ℕ)
children_of (Leaf id sink) = None
children_of (Pair left right buffer) = Some (left, right)

abbrev pub tree_children : TreeNode → Option (ℕ × ℕ)
tree_children node = children_of node.kind

-- The same numbers, counted from the number `first` on: those of the children of a node in a stretch of a tree's nodes that
-- begins there.
abbrev pub children_of_from : ℕ → NodeKind → Option (ℕ × ℕ)
children_of_from first (Leaf id sink) = None
children_of_from first (Pair left right buffer) = Some (left - first, right - first)

abbrev pub children_from : ℕ → TreeNode → Option (ℕ × ℕ)
children_from first node = children_of_from first node.kind

-- the sink of a leaf, by its place in the list of sinks, and nothing at a pair
abbrev pub leaf_sink : NodeKind → Option ℕ
leaf_sink (Leaf id sink) = Some sink
leaf_sink (Pair left right buffer) = None

-- the id of a leaf's sink, and nothing at a pair
abbrev pub leaf_id : NodeKind → Option ℕ
leaf_id (Leaf id sink) = Some id
leaf_id (Pair left right buffer) = None

-- the index of a node's buffer in the library, and nothing where it has none
abbrev pub buffer_of : NodeKind → Option ℕ
buffer_of (Leaf id sink) = None
buffer_of (Pair left right buffer) = buffer
