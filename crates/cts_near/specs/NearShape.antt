-- The shape that the nearest-pair topology gives.
use Rattle.std.specs.Prelude.{◌≡◌, ℕ, ◌+◌, List}
use Rattle.cts_units.specs.declared.params.Sink.{Sink}
use Rattle.cts_units.specs.declared.params.Params.{Params}
use Rattle.cts_postorder.specs.BinaryTree.{BinaryTree, tip, size, labels}
use Rattle.cts_topo.specs.declared.shape.ShapeNode.{ShapeNode}
use Rattle.cts_topo.specs.declared.shape.ShapeNode.TheVariants.{Leaf}
use Rattle.cts_topo.specs.Topology.{pair_over}
use Rattle.cts_near.specs.Parts.{Joining, single, pair}
use Rattle.cts_near.specs.Near.{IsNear, whole, beyond}

-- the tree of what is joined, with its nodes numbered in post-order from `first` on
unfoldable pub numbered : ℕ → Joining → BinaryTree ShapeNode
numbered first (single sink) = tip (Leaf sink)
numbered first (pair l r) = pair_over first (numbered first l) (numbered (first + size (numbered first l)) r)

-- the nodes of that tree in post-order
abbrev pub nodes_of : Joining → List ShapeNode
nodes_of tree = labels (numbered 0 tree)

-- the shape over some sinks whose every pair was the closest one when it was joined
pub record IsNearShape (params : Params) (sinks : List Sink) (nodes : List ShapeNode) : Type 0 where
  pub tree : Joining
  pub near : IsNear params sinks (whole tree)
  pub spelled : nodes ≡ nodes_of tree

-- the first step, from 1, whose pair is beyond the limits
abbrev pub IsNearBeyond : Params → List Sink → ℕ → Type 0
IsNearBeyond params sinks step = IsNear params sinks (beyond step)
