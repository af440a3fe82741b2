-- What holds of the pass from the root down before it comes to the node before a number.
use Rattle.std.proofs.Common.{◌≡◌, ℕ, List, take, drop}
use Rattle.std.specs.List.{AllZip}
use Rattle.cts_geom.specs.declared.points.Spot.{Spot}
use Rattle.cts_postorder.specs.Occurrence.{occurrences_of}
use Rattle.cts_instance.specs.declared.parts.Parts.{Parts}
use Rattle.cts_topo.specs.declared.shape.ShapeNode.{ShapeNode}
use Rattle.cts_topo.specs.Shape.{children}
use Rattle.cts_tree.specs.declared.nodes.TreeNode.{TreeNode}
use Rattle.cts_embed.specs.Leaves.{ids_of_leaves}
use Rattle.cts_embed.specs.PlacedTree.{IsPlacedNode}
use Rattle.cts_embed.proofs.Starts.{AreStarts}

-- the ids of the leaves before it are left, the starts that it and others take wait, and the nodes from the number on are placed
pub record IsDescent (parts : Parts) (nodes : List ShapeNode) (number : ℕ) (left : List ℕ) (starts : List Spot) (done : List TreeNode)
    : Type 0 where
  pub ids : left ≡ ids_of_leaves parts.sinks (take number nodes)
  pub starts_are : AreStarts parts nodes number starts
  pub placed : AllZip (IsPlacedNode parts) (drop number (occurrences_of children nodes)) done
