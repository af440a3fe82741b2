-- How far the joining has come: the joins so far, and the subtrees that are still to be joined.
use Rattle.std.specs.Prelude.{◌≡◌, ℕ, ◌+◌, ◌*◌, ◌<◌, List, map, length, slice_index_or, All}
use Rattle.std.specs.List.{AllPairs, AllByRecursion, range_with_len}
use Rattle.cts_units.specs.declared.params.Sink.{Sink}
use Rattle.cts_units.specs.declared.params.Params.{Params}
use Rattle.cts_postorder.specs.BinaryTree.{BinaryTree, tip, fork}
use Rattle.cts_postorder.specs.PostOrder.{trees_of}
use Rattle.cts_topo.specs.declared.shape.ShapeNode.{ShapeNode}
use Rattle.cts_topo.specs.declared.shape.ShapeNode.TheVariants.{Leaf, Pair}
use Rattle.cts_topo.specs.Shape.{children}
use Rattle.cts_topo.specs.Shuffled.{Shuffled}
use Rattle.cts_merge.specs.declared.side.Finished.{Finished}
use Rattle.cts_merge.specs.Merge.{IsLeaf, IsMerged, IsBeyond}
use Rattle.cts_up.specs.Plan.{IsFinished}
use Rattle.cts_near.specs.declared.subtree.Subtree.{Subtree}
use Rattle.cts_near.specs.Parts.{Joining, single, pair, Part, AreSinkParts}
use Rattle.cts_near.specs.Closest.{AreClosest}
use Rattle.cts_near.specs.Near.{after_join}
use Rattle.cts_near.specs.NearShape.{numbered}
use Rattle.cts_near.specs.Search.{AreBounds}

-- what a tree of joins joins
unfoldable pub outline : BinaryTree ShapeNode → Joining
outline (tip (Leaf sink)) = single sink
outline (tip (Pair l r)) = single 0
outline (fork l r n) = pair (outline l) (outline r)

-- what is joined at the join of this number: a leaf, or the two joins that a pair names
unfoldable pub tree_at : List ShapeNode → ℕ → Joining
tree_at joins k = outline (slice_index_or (trees_of children joins) k (tip (Leaf 0)))

-- a subtree as a part
abbrev pub part_of : List ShapeNode → Subtree → Part
part_of joins s = record { tree = tree_at joins s.node; name = s.name; side = s.side }

abbrev pub parts_of : List ShapeNode → List Subtree → List Part
parts_of joins subtrees = map (part_of joins) subtrees

-- a part has the side that its tree has in an upward pass
pub record IsMade (params : Params) (sinks : List Sink) (part : Part) : Type 0 where
  pub finished : Finished
  pub made : IsFinished params sinks (numbered 0 part.tree) finished
  pub side : part.side ≡ finished.side

-- a pair names two earlier joins
abbrev pub NamesEarlier : List ShapeNode → Type 0
NamesEarlier joins =
    (k l r : ℕ) (d : ShapeNode) → k < length joins → slice_index_or joins k d ≡ Pair l r → (l < k) × (r < k)

-- Joins, each after those that it names; subtrees by rising names, each of one join, with the side of its tree; and a bound
-- for each of them. Each step is one join more and one subtree fewer.
pub record IsForest (params : Params) (sinks : List Sink) (joins : List ShapeNode) (subtrees : List Subtree)
    (bounds : List ℕ) : Type 0 where
  pub earlier : NamesEarlier joins
  pub named : All (λ (s : Subtree). s.node < length joins) subtrees
  pub rising : AllPairs (λ (s t : Subtree). s.name < t.name) subtrees
  pub made : AllByRecursion (IsMade params sinks) (parts_of joins subtrees)
  pub bounded : AreBounds subtrees bounds
  pub count : length joins + length subtrees ≡ 2 * length sinks

-- one step: the closest two parts are joined, and the others stay
pub record IsStep (params : Params) (parts parts' : List Part) : Type 0 where
  pub a : Part
  pub b : Part
  pub closest : AreClosest parts a b
  pub pair : Finished
  pub merged : IsMerged params a.side b.side pair
  pub left : Shuffled (after_join parts a b pair) parts'

-- no further step: the closest two parts are beyond
pub record IsStuck (params : Params) (parts : List Part) : Type 0 where
  pub a : Part
  pub b : Part
  pub closest : AreClosest parts a b
  pub over : IsBeyond params a.side b.side

-- the subtree of one sink, whose leaf is the join of this number
pub record IsLeafSubtree (sink : Sink) (place : ℕ) (s : Subtree) : Type 0 where
  pub name : s.name ≡ sink.id
  pub node : s.node ≡ place
  pub leaf : Finished
  pub is_leaf : IsLeaf sink leaf
  pub side : s.side ≡ leaf.side

-- the subtrees of the first so many sinks, in their order
pub record AreLeafSubtrees (sinks : List Sink) (many : ℕ) (subtrees : List Subtree) : Type 0 where
  pub count : length subtrees ≡ many
  pub each : (k : ℕ) (d : Sink) (e : Subtree) → k < many
      → IsLeafSubtree (slice_index_or sinks k d) k (slice_index_or subtrees k e)

-- the leaves of so many sinks, in their order
abbrev pub leaves : ℕ → List ShapeNode
leaves count = map (λ sink. Leaf sink) (range_with_len 0 count)

-- at first the parts are those over the sinks
pub record IsBegun (sinks : List Sink) (parts : List Part) : Type 0 where
  pub in_order : List Part
  pub over_sinks : AreSinkParts 0 sinks in_order
  pub shuffled : Shuffled in_order parts
