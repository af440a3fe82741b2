-- What a worker is given, and what it makes of it. A stretch of a shape has the nodes from a first number to a last one.
use Rattle.std.specs.Prelude.{◌≡◌, ℕ, ◌+◌, ◌<◌, ◌≤◌, List, length, slice_index_or}
use Rattle.std.specs.List.{AllZip}
use Rattle.cts_geom.specs.declared.points.Spot.{Spot}
use Rattle.cts_units.specs.declared.params.Sink.{Sink}
use Rattle.cts_postorder.specs.BinaryTree.{BinaryTree, size}
use Rattle.cts_postorder.specs.PostOrder.{trees_of}
use Rattle.cts_postorder.specs.Occurrence.{Occurrence, occurrences_of}
use Rattle.cts_topo.specs.declared.shape.ShapeNode.{ShapeNode}
use Rattle.cts_topo.specs.Shape.{children, IsShapeOver}
use Rattle.cts_up.specs.declared.site.Site.{Site}
use Rattle.cts_up.specs.Sites.{AreSites}
use Rattle.cts_tree.specs.declared.nodes.TreeNode.{TreeNode}
use Rattle.cts_instance.specs.declared.parts.Parts.{Parts}
use Rattle.cts_embed.specs.declared.end.EmbedEnd.{EmbedEnd}
use Rattle.cts_embed.specs.declared.end.EmbedEnd.TheVariants.{Cut, NoMemory}
use Rattle.cts_embed.specs.Leaves.{IsIdOf}
use Rattle.cts_embed.specs.Places.{IsRouteStart}
use Rattle.cts_embed.specs.PlacedTree.{IsCutNode, IsPlacedNode}

-- the ids of the sinks that leaves name, each at the number of its leaf
abbrev pub AreIds : List Sink → List ShapeNode → List ℕ → Type 0
AreIds sinks nodes ids = AllZip (IsIdOf sinks) nodes ids

-- the node of a number can be placed from here, by the site of it
pub record IsReady (parts : Parts) (nodes : List ShapeNode) (sites : List Site) (number : ℕ) (from : Spot) : Type 0 where
  pub shape : IsShapeOver (length parts.sinks) nodes
  pub are_sites : AreSites parts.params parts.sinks nodes sites
  pub within : number < length nodes
  pub start : (o : Occurrence ShapeNode) → IsRouteStart parts (slice_index_or (occurrences_of children nodes) number o).above from

-- the tree at a number has the nodes from the first number to this one
abbrev pub IsStretch : List ShapeNode → ℕ → ℕ → Type 0
IsStretch nodes first root =
    (d : BinaryTree ShapeNode) → first + size (slice_index_or (trees_of children nodes) root d) ≡ root + 1

-- a node of the placed tree, by its number
abbrev pub IsPlacedAt : Parts → List ShapeNode → ℕ → TreeNode → Type 0
IsPlacedAt parts nodes number node =
    (o : Occurrence ShapeNode) → IsPlacedNode parts (slice_index_or (occurrences_of children nodes) number o) node

-- the nodes of the placed tree from a first number to a last one
pub record ArePlaced (parts : Parts) (nodes : List ShapeNode) (first last : ℕ) (placed : List TreeNode) : Type 0 where
  pub long : first + length placed ≡ last + 1
  pub each : (k : ℕ) (e : TreeNode) → k < length placed → IsPlacedAt parts nodes (first + k) (slice_index_or placed k e)

-- the node of a number is cut
abbrev pub IsCutAt : Parts → List ShapeNode → ℕ → Type 0
IsCutAt parts nodes number =
    (o : Occurrence ShapeNode) → IsCutNode parts (slice_index_or (occurrences_of children nodes) number o)

-- the greatest number of a node that is cut, of those from a first number to a last one
pub record IsLastCut (parts : Parts) (nodes : List ShapeNode) (first last k : ℕ) : Type 0 where
  pub at_least : first ≤ k
  pub at_most : k ≤ last
  pub cut : IsCutAt parts nodes k
  pub none_after : (j : ℕ) (o : Occurrence ShapeNode) → k < j → j ≤ last
      → ¬ IsCutNode parts (slice_index_or (occurrences_of children nodes) j o)

-- the placing of a stretch may end so: at the greatest node of it that is cut, or for want of memory
abbrev pub StretchEnds : Parts → List ShapeNode → ℕ → ℕ → EmbedEnd → Type 0
StretchEnds parts nodes first last (Cut k) = IsLastCut parts nodes first last k
StretchEnds parts nodes first last NoMemory = Unit {0}
