-- The placed tree of a shape: its nodes with their places and the routes to them; or the node that no route reaches.
use Rattle.std.specs.Prelude.{◌≡◌, ℕ, List, Some}
use Rattle.std.specs.List.{AllZip}
use Rattle.cts_geom.specs.declared.points.Spot.{Spot}
use Rattle.cts_geom.specs.Points.{point_of}
use Rattle.cts_postorder.specs.BinaryTree.{label}
use Rattle.cts_postorder.specs.Occurrence.{Occurrence, occurrences_of}
use Rattle.cts_postorder.specs.Pass.{IsGreatestFailure}
use Rattle.cts_tree.specs.declared.nodes.TreeNode.{TreeNode}
use Rattle.cts_route.specs.Routes.{IsRoute, IsCut}
use Rattle.cts_instance.specs.declared.parts.Parts.{Parts}
use Rattle.cts_topo.specs.declared.shape.ShapeNode.{ShapeNode}
use Rattle.cts_topo.specs.Shape.{children}
use Rattle.cts_merge.specs.declared.side.Finished.{Finished}
use Rattle.cts_up.specs.Plan.{IsFinished}
use Rattle.cts_embed.specs.Places.{IsNodePlace, IsRouteStart, kind_of}

-- a node of a shape, placed from the place where its route starts; its wire has no length yet
pub record IsPlacedFrom (parts : Parts) (n : ShapeNode) (finished : Finished) (from : Spot) (node : TreeNode) : Type 0 where
  pub kind : kind_of parts.sinks n finished.buffer ≡ Some node.kind
  pub place : IsNodePlace parts n finished from node.place
  pub wire : node.wire ≡ 0
  pub route : IsRoute parts.blocks parts.die (point_of from) (point_of node.place) node.route

-- no route runs to its final place
pub record IsCutFrom (parts : Parts) (n : ShapeNode) (finished : Finished) (from : Spot) : Type 0 where
  pub place : Spot
  pub is_place : IsNodePlace parts n finished from place
  pub cut : IsCut parts.blocks parts.die (point_of from) (point_of place)

-- a node of the placed tree
pub record IsPlacedNode (parts : Parts) (o : Occurrence ShapeNode) (node : TreeNode) : Type 0 where
  pub from : Spot
  pub start : IsRouteStart parts o.above from
  pub finished : Finished
  pub made : IsFinished parts.params parts.sinks o.here finished
  pub placed : IsPlacedFrom parts (label o.here) finished from node

-- a node is cut
pub record IsCutNode (parts : Parts) (o : Occurrence ShapeNode) : Type 0 where
  pub from : Spot
  pub start : IsRouteStart parts o.above from
  pub finished : Finished
  pub made : IsFinished parts.params parts.sinks o.here finished
  pub cut : IsCutFrom parts (label o.here) finished from

-- the placed tree has the form of the shape, each node in its place
abbrev pub IsPlacedTree : Parts → List ShapeNode → List TreeNode → Type 0
IsPlacedTree parts shape placed = AllZip (IsPlacedNode parts) (occurrences_of children shape) placed

-- the greatest number of a node that is cut
abbrev pub IsGreatestCut : Parts → List ShapeNode → ℕ → Type 0
IsGreatestCut parts shape k = IsGreatestFailure children shape (IsCutNode parts) k
