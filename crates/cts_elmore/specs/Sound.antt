-- What is asked of every clock tree of an instance, whoever made it.
use Rattle.std.specs.Prelude.{◌≡◌, ℕ, ◌*◌, ◌==◌, ◌≤◌, ◌⊎◌, pos, ◌*ℤ◌, List, [], ◌∷◌, filter_map, count_by, All, Contains, MatchOption}
use Rattle.cts_geom.specs.declared.bounds.Die.{Die}
use Rattle.cts_geom.specs.declared.points.Half.{Half}
use Rattle.cts_geom.specs.Points.{point_of, spot_at}
use Rattle.cts_units.specs.declared.params.Sink.{Sink}
use Rattle.cts_block.specs.declared.blocks.Block.{Block}
use Rattle.cts_block.specs.FreePoints.{IsHalfInDie, IsFreeForWire, IsOpenToBuffers}
use Rattle.cts_postorder.specs.BinaryTree.{BinaryTree, label}
use Rattle.cts_postorder.specs.Occurrence.{Occurrence, occurrences_of}
use Rattle.cts_tree.specs.declared.nodes.TreeNode.{TreeNode}
use Rattle.cts_tree.specs.declared.route.Route.{Route}
use Rattle.cts_tree.specs.Nodes.{tree_children, leaf_id, buffer_of}
use Rattle.cts_tree.specs.Path.{points_along, path_length, HasAxisSteps, AllAlong}
use Rattle.cts_instance.specs.declared.parts.Parts.{Parts}
use Rattle.cts_elmore.specs.Limits.{IsWithinLimits}

-- the ids of the leaves, from the left
abbrev pub leaf_ids : List TreeNode → List ℕ
leaf_ids nodes = filter_map (λ node. leaf_id node.kind) nodes

-- a sink with this id that has this node's place
pub record IsSinkAt (sinks : List Sink) (node : TreeNode) (id : ℕ) : Type 0 where
  pub sink : Sink
  pub among : Contains sinks sink
  pub id_is : sink.id ≡ id
  pub place : node.place ≡ spot_at sink.x sink.y

-- Each leaf has the id of a sink, and stands at its place; each sink stands at exactly one leaf.
pub record ReachesEachSinkOnce (sinks : List Sink) (nodes : List TreeNode) : Type 0 where
  pub leaves : All (λ node. MatchOption (leaf_id node.kind) (Unit {0}) (IsSinkAt sinks node)) nodes
  pub once : All (λ sink. count_by (λ id. id == sink.id) (leaf_ids nodes) ≡ 1) sinks

-- The route's steps run along the axes and are longer than 0, and no point of them is outside the die or strictly inside
-- a block of kind All. Between equal ends there need be no step.
abbrev pub IsLegalRoute : List Block → Die → Half → Half → Route → Type 0
IsLegalRoute blocks die from to route =
    ((from ≡ to) × (route.corners ≡ []))
    ⊎ (HasAxisSteps (points_along from route.corners to) × AllAlong (IsFreeForWire blocks die) (points_along from route.corners to))

-- where the wire above a node begins: at the nearest pair above it, or at the source
abbrev pub upper_end : Parts → List (BinaryTree TreeNode) → Half
upper_end i [] = record { x = pos 2 *ℤ i.source_x; y = pos 2 *ℤ i.source_y }
upper_end i (pair ∷ above) = point_of (label pair).place

-- the node's route is legal, and its wire, in nm, is no shorter
pub record HasLegalWire (i : Parts) (o : Occurrence TreeNode) : Type 0 where
  pub route : IsLegalRoute i.blocks i.die (upper_end i o.above) (point_of (label o.here).place) (label o.here).route
  pub no_shorter : path_length (points_along (upper_end i o.above) (label o.here).route.corners (point_of (label o.here).place)) ≤ 2 * (label o.here).wire

-- no buffer stands strictly inside a block of either kind
abbrev pub HasOpenBuffer : List Block → TreeNode → Type 0
HasOpenBuffer blocks node = MatchOption (buffer_of node.kind) (Unit {0}) (λ _. All (IsOpenToBuffers (point_of node.place)) blocks)

-- A sound tree: each sink is reached once and at its place, routes are legal and wires no shorter, buffers stand in no
-- block, and no node is over the limits.
pub record IsSound (i : Parts) (nodes : List TreeNode) : Type 0 where
  pub sinks : ReachesEachSinkOnce i.sinks nodes
  pub wires : All (HasLegalWire i) (occurrences_of tree_children nodes)
  pub buffers : All (HasOpenBuffer i.blocks) nodes
  pub within : IsWithinLimits i nodes

-- a node stands in the die, and so do the corners of its route
pub record StandsInDie (die : Die) (node : TreeNode) : Type 0 where
  pub place : IsHalfInDie die (point_of node.place)
  pub corners : All (IsHalfInDie die) node.route.corners
