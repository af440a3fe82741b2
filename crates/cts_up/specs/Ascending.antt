-- A pass upward that keeps of the nodes only the sides of those that wait for the pair above them.
use Rattle.std.specs.Prelude.{◌≡◌, ℕ, List, map, take, length, slice_get, Some}
use Rattle.cts_units.specs.declared.params.Sink.{Sink}
use Rattle.cts_units.specs.declared.params.Params.{Params}
use Rattle.cts_postorder.specs.BinaryTree.{BinaryTree}
use Rattle.cts_postorder.specs.Waiting.{AreWaiting}
use Rattle.cts_topo.specs.declared.shape.ShapeNode.{ShapeNode}
use Rattle.cts_topo.specs.Shape.{children_from, leaf_sinks, IsStretchOver}
use Rattle.cts_merge.specs.declared.side.Side.{Side}
use Rattle.cts_merge.specs.declared.side.Finished.{Finished}
use Rattle.cts_up.specs.Plan.{IsFinished}

-- the side of a tree
abbrev pub IsSide : Params → List Sink → BinaryTree ShapeNode → Side → Type 0
IsSide params sinks t side = (f : Finished) × IsFinished params sinks t f × (f.side ≡ side)

-- A pass over a stretch of a shape, of which the first node has the number `first` there, stands before the node of number k
-- of the stretch: it lists the sinks that the leaves name, has passed so many leaves, and keeps the sides that wait for the
-- pair above them.
pub record IsAscent (params : Params) (sinks : List Sink) (first : ℕ) (nodes : List ShapeNode) (k : ℕ) (named : List Sink)
    (leaves : ℕ) (waiting : List Side) : Type 0 where
  pub stretch : IsStretchOver (length sinks) first nodes
  pub each_named : map Some named ≡ map (slice_get sinks) (leaf_sinks nodes)
  pub counted : leaves ≡ length (leaf_sinks (take k nodes))
  pub each_waits : AreWaiting (children_from first) nodes (IsSide params sinks) k waiting
